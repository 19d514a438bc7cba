use Rattle.std.proofs.Common.{subst}
use Rattle.std.specs.Prelude.{IfOk}
use Rattle.cert_reader.specs.Bytes.{MayHold, ForSome}
use Rattle.cert_reader.specs.Reading.{reading}
use Rattle.cert_rules.specs.Laws.{VerdictIsSo}
use Rattle.cert_check.specs.Answers.{verdict_of, IsAnswerOf}
use Rattle.cert_check.proofs.ReadLemmas.{few_at_first}
use Rattle.cert_check.proofs.AnswerLemmas.{top_tells, starved_tells, verdict_so}
use Rattle.cert_check.proofs.SourceLemmas.{source_memory}
use Rattle.cert_check.proofs.checks.Checks.check.Goals as goal

pub check_lines-requires-clause-few : goal.check_lines-requires-clause-few
check_lines-requires-clause-few g c = few_at_first (g.R.Source.left c.args.source.now) c.in_ok-reader.reader c.in_ok-reader.ensures

pub returns-in_err-reader-clause-source : goal.returns-in_err-reader-clause-source
returns-in_err-reader-clause-source g c =
    source_memory c.from_residual.result c.args.source.now (g.met.R.Source.steady_stays c.args.source.now) (g.met.R.Source.quiet_stays c.args.source.now) c.from_residual.ensures.1

pub returns-clause-answer : goal.returns-clause-answer
returns-clause-answer g c =
    subst (λ p. ForSome (MayHold (g.R.Source.left c.args.source.now)) (λ bytes. IsAnswerOf p (reading bytes) c.check_lines.result)) c.self.view_is
    (top_tells c.self.inside.problem.now c.in_ok-reader.reader (g.R.Source.left c.args.source.now) c.check_lines.result c.in_ok-reader.ensures c.check_lines.ensures.answer)

pub returns-in_err-reader-clause-answer : goal.returns-in_err-reader-clause-answer
returns-in_err-reader-clause-answer g c = starved_tells c.args.self.now (g.R.Source.left c.args.source.now) c.from_residual.result c.from_residual.ensures.1

pub returns-clause-so : goal.returns-clause-so
returns-clause-so g c =
    subst (λ p. IfOk c.check_lines.result (λ said. VerdictIsSo p (verdict_of said))) c.self.view_is
    (verdict_so c.self.inside.problem.now c.check_lines.result c.facts.ensures.built c.accepted_is_so.ensures
    (top_tells c.self.inside.problem.now c.in_ok-reader.reader (g.R.Source.left c.args.source.now) c.check_lines.result c.in_ok-reader.ensures c.check_lines.ensures.answer))
