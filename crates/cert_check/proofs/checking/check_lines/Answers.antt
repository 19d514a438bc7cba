use Rattle.cert_reader.proofs.ReaderLemmas.{some_read}
use Rattle.cert_check.proofs.AnswerLemmas.{few_on, first_tells, none_tells, fault_tells}
use Rattle.cert_check.proofs.SourceLemmas.{source_joins, source_as, source_then_rejected}
use Rattle.cert_check.proofs.checking.check_lines.Goals as goal

pub returns-in-Ok-Some-clause-source : goal.returns-in-Ok-Some-clause-source
returns-in-Ok-Some-clause-source g c =
    let old = c.args.source.now in
    let mid = c.next_line.new.source in
    let new = c.check_behind.new.source in
    source_joins _ _ old mid new (g.met.R.Source.steady_joins old mid new) (g.met.R.Source.quiet_joins old mid new) c.in-Ok-Some.ensures.source c.check_behind.ensures.source

pub returns-in-Ok-None-clause-source : goal.returns-in-Ok-None-clause-source
returns-in-Ok-None-clause-source g c = source_then_rejected _ _ _ _ c.args.source.now c.next_line.new.source c.wrong_header.ensures c.in-Ok-None.ensures.source

pub returns-in-Err-clause-source : goal.returns-in-Err-clause-source
returns-in-Err-clause-source g c = source_as _ c.args.source.now c.next_line.new.source c.in-Err.ensures.source

pub check_behind-requires-clause-few : goal.check_behind-requires-clause-few
check_behind-requires-clause-few g c = few_on 0 c.in-Ok-Some.field-0 c.in-Ok-Some.first c.in-Ok-Some.field-0-is c.in-Ok-Some.ensures.answer c.requires.few

pub returns-in-Ok-Some-clause-answer : goal.returns-in-Ok-Some-clause-answer
returns-in-Ok-Some-clause-answer g c =
    first_tells c.args.problem.now c.in-Ok-Some.field-0 c.in-Ok-Some.first c.check_behind.result c.in-Ok-Some.field-0-is c.in-Ok-Some.ensures.answer c.check_behind.ensures.answer

pub returns-in-Ok-None-clause-answer : goal.returns-in-Ok-None-clause-answer
returns-in-Ok-None-clause-answer g c =
    none_tells c.args.problem.now c.in-Ok-None.field-0 c.wrong_header.result c.in-Ok-None.field-0-is c.wrong_header.ensures
    (some_read c.next_line.new.reader (g.R.Source.left c.next_line.new.source)) c.in-Ok-None.ensures.answer

pub returns-in-Err-clause-answer : goal.returns-in-Err-clause-answer
returns-in-Err-clause-answer g c =
    fault_tells c.args.problem.now c.in-Err.fault (some_read c.next_line.new.reader (g.R.Source.left c.next_line.new.source)) c.in-Err.ensures.answer
