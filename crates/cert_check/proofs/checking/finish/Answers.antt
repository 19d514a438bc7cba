use Rattle.std.proofs.Common.{sym}
use Rattle.cert_check.proofs.AnswerLemmas.{finish_ok, finish_fault}
use Rattle.cert_check.proofs.SourceLemmas.{source_ok_as, source_as}
use Rattle.cert_check.proofs.checking.finish.Goals as goal

pub returns-in-Ok-clause-source : goal.returns-in-Ok-clause-source
returns-in-Ok-clause-source g c = source_ok_as _ _ c.args.source.now c.end_reading.new.source c.in-Ok.ensures.source

pub returns-in-Err-clause-source : goal.returns-in-Err-clause-source
returns-in-Err-clause-source g c = source_as _ c.args.source.now c.end_reading.new.source c.in-Err.ensures.source

pub returns-in-Ok-clause-answer : goal.returns-in-Ok-clause-answer
returns-in-Ok-clause-answer g c = finish_ok _ c.accepted.result (sym c.accepted.ensures) c.in-Ok.ensures.answer

pub returns-in-Err-clause-answer : goal.returns-in-Err-clause-answer
returns-in-Err-clause-answer g c = finish_fault _ c.in-Err.fault c.in-Err.ensures.answer
