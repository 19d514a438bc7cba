use Rattle.std.proofs.Common.{refl}
use Rattle.cert_rules.specs.declared.RejectKind.TheVariants.{MissingBranch}
use Rattle.cert_check.proofs.AnswerLemmas.{on_ok, turn_line, turn_none, turn_fault, few_on}
use Rattle.cert_check.proofs.SourceLemmas.{source_as, source_then, source_then_rejected}
use Rattle.cert_check.proofs.checking.take_next.Goals as goal

pub returns-in-Ok-Some-clause-turn : goal.returns-in-Ok-Some-clause-turn
returns-in-Ok-Some-clause-turn g c =
    turn_line c.args.book.now c.args.checker.now c.args.read c.take.new.book c.take.new.checker c.in-Ok-Some.field-0 c.in-Ok-Some.line c.take.result c.in-Ok-Some.field-0-is c.in-Ok-Some.ensures.answer c.take.ensures.turn

pub returns-in-Ok-Some-clause-few : goal.returns-in-Ok-Some-clause-few
returns-in-Ok-Some-clause-few g c = on_ok c.take.result _ (few_on c.args.read c.in-Ok-Some.field-0 c.in-Ok-Some.line c.in-Ok-Some.field-0-is c.in-Ok-Some.ensures.answer)

pub returns-in-Ok-None-clause-turn : goal.returns-in-Ok-None-clause-turn
returns-in-Ok-None-clause-turn g c = turn_none c.args.book.now c.args.checker.now c.args.read c.args.book.now c.args.checker.now c.in-Ok-None.field-0 c.in-Ok-None.field-0-is c.in-Ok-None.ensures.answer

pub returns-in-Err-clause-turn : goal.returns-in-Err-clause-turn
returns-in-Err-clause-turn g c = turn_fault c.args.book.now c.args.checker.now c.args.read c.args.book.now c.args.checker.now c.in-Err.fault c.in-Err.ensures.answer

pub returns-in-Ok-Some-clause-source : goal.returns-in-Ok-Some-clause-source
returns-in-Ok-Some-clause-source g c = source_then _ c.take.result c.args.source.now c.next_line.new.source c.take.ensures.unread c.in-Ok-Some.ensures.source

pub returns-in-Ok-None-clause-source : goal.returns-in-Ok-None-clause-source
returns-in-Ok-None-clause-source g c = source_then_rejected _ _ c.args.read MissingBranch c.args.source.now c.next_line.new.source refl c.in-Ok-None.ensures.source

pub returns-in-Err-clause-source : goal.returns-in-Err-clause-source
returns-in-Err-clause-source g c = source_as _ c.args.source.now c.next_line.new.source c.in-Err.ensures.source
