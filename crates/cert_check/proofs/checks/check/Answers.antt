use Rattle.cert_check.proofs.AnswerLemmas.{starved_tells}
use Rattle.cert_check.proofs.SourceLemmas.{source_memory}
use Rattle.cert_check.proofs.checks.check.Goals as goal

pub returns-in_err-checks-clause-source : goal.returns-in_err-checks-clause-source
returns-in_err-checks-clause-source g c =
    source_memory c.from_residual.result c.args.source.now (g.met.R.Source.steady_stays c.args.source.now) (g.met.R.Source.quiet_stays c.args.source.now) c.from_residual.ensures.1

pub returns-in_err-checks-clause-answer : goal.returns-in_err-checks-clause-answer
returns-in_err-checks-clause-answer g c = starved_tells c.args.problem.now (g.R.Source.left c.args.source.now) c.from_residual.result c.from_residual.ensures.1
