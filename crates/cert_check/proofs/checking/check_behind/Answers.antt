use Rattle.std.proofs.Common.{subst}
use Rattle.cert_reader.specs.Reader.{MayRead}
use Rattle.cert_check.specs.Whole.{TellsFrom}
use Rattle.cert_reader.proofs.ReaderLemmas.{some_read}
use Rattle.cert_check.proofs.AnswerLemmas.{starts_tells, starts_not}
use Rattle.cert_check.proofs.SourceLemmas.{starts_unread, source_stays}
use Rattle.cert_check.proofs.checking.check_behind.Goals as goal

pub returns-in-Err-clause-source : goal.returns-in-Err-clause-source
returns-in-Err-clause-source g c =
    source_stays c.in-Err.fault c.args.source.now (g.met.R.Source.steady_stays c.args.source.now) (g.met.R.Source.quiet_stays c.args.source.now)
    (starts_unread c.args.problem.now c.args.first c.in-Err.fault c.in-Err.ensures.exact)

pub returns-in-Ok-clause-answer : goal.returns-in-Ok-clause-answer
returns-in-Ok-clause-answer g c = starts_tells c.args.problem.now c.args.first c.in-Ok.checker c.check_rest.result c.in-Ok.ensures.exact
    (subst (λ proof. TellsFrom proof c.in-Ok.checker 1 (MayRead c.args.reader.now (g.R.Source.left c.args.source.now)) c.check_rest.result) c.requires.start c.check_rest.ensures.answer)

pub returns-in-Err-clause-answer : goal.returns-in-Err-clause-answer
returns-in-Err-clause-answer g c =
    starts_not c.args.problem.now c.args.first c.in-Err.fault (some_read c.args.reader.now (g.R.Source.left c.args.source.now)) c.in-Err.ensures.exact
