use Rattle.std.proofs.Common.{Some, None}
use Rattle.cert_reader.specs.declared.fault.CertTextFault.TheVariants.{Text, ReadFault, NoMemory}
use Rattle.cert_check.proofs.AnswerLemmas.{next_ok, next_err}
use Rattle.cert_check.proofs.checking.next_line.Goals as goal

pub returns-in-Ok-Some-clause-answer : goal.returns-in-Ok-Some-clause-answer
returns-in-Ok-Some-clause-answer g c = next_ok c.in-Ok-Some.field-0 (Some c.in-Ok-Some.line) c.in-Ok-Some.field-0-is (c.in-Ok-Some.ensures.answer c.requires)

pub returns-in-Ok-None-clause-answer : goal.returns-in-Ok-None-clause-answer
returns-in-Ok-None-clause-answer g c = next_ok c.in-Ok-None.field-0 None c.in-Ok-None.field-0-is (c.in-Ok-None.ensures.answer c.requires)

pub returns-in-Err-Text-clause-answer : goal.returns-in-Err-Text-clause-answer
returns-in-Err-Text-clause-answer g c =
    next_err c.in-Err-Text.field-0 (Text c.in-Err-Text.line c.in-Err-Text.kind) c.in-Err-Text.field-0-is (c.in-Err-Text.ensures.answer c.requires)

pub returns-in-Err-ReadFault-clause-answer : goal.returns-in-Err-ReadFault-clause-answer
returns-in-Err-ReadFault-clause-answer g c = next_err c.in-Err-ReadFault.field-0 ReadFault c.in-Err-ReadFault.field-0-is (c.in-Err-ReadFault.ensures.answer c.requires)

pub returns-in-Err-NoMemory-clause-answer : goal.returns-in-Err-NoMemory-clause-answer
returns-in-Err-NoMemory-clause-answer g c = next_err c.in-Err-NoMemory.field-0 NoMemory c.in-Err-NoMemory.field-0-is (c.in-Err-NoMemory.ensures.answer c.requires)
