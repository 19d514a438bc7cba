use Rattle.std.proofs.Common.{Ok, Err, ap}
use Rattle.cert_reader.specs.declared.fault.CertTextFault.TheVariants.{ReadFault, NoMemory}
use Rattle.cert_reader.proofs.ReaderLemmas.{told_line, told_fault, told_rest, told_faulty, answer_unread, stays_at_end, where_none}
use Rattle.cert_reader.proofs.reader.CertReader.read_next.Goals as goal

pub returns-in_err-line-in-Ok-Line-clause-answer : goal.returns-in_err-line-in-Ok-Line-clause-answer
returns-in_err-line-in-Ok-Line-clause-answer g c =
    told_fault c.args.self.now c.self.inside.spot c.self.inside.blocks c.self.inside.refusal (g.R.Source.left c.args.source.now) c.gather.new.blocks (g.R.Source.left c.gather.new.source)
    c.in-Ok-Line.field-0 c.gather.new.line.items c.self.view_is c.in-Ok-Line.ensures.bytes
    c.from_residual.result c.in_err-line-in-Ok-Line.field-0.0 c.deref.result.now c.in-Ok-Line.field-0-is c.deref.ensures.value c.from_residual.ensures.1 c.in_err-line-in-Ok-Line.ensures.exact

pub returns-in_ok-line-in-Ok-Line-clause-answer : goal.returns-in_ok-line-in-Ok-Line-clause-answer
returns-in_ok-line-in-Ok-Line-clause-answer g c =
    told_line c.args.self.now c.self.inside.spot c.self.inside.blocks c.self.inside.refusal (g.R.Source.left c.args.source.now) c.gather.new.blocks (g.R.Source.left c.gather.new.source)
    c.in-Ok-Line.field-0 c.gather.new.line.items c.self.view_is c.in-Ok-Line.ensures.bytes
    c.in_ok-line-in-Ok-Line.line c.in_ok-line-in-Ok-Line.after c.deref.result.now c.in-Ok-Line.field-0-is c.deref.ensures.value c.in_ok-line-in-Ok-Line.ensures.exact

pub returns-in-Ok-Rest-clause-answer : goal.returns-in-Ok-Rest-clause-answer
returns-in-Ok-Rest-clause-answer g c =
    told_rest c.args.self.now c.self.inside.spot c.self.inside.blocks c.self.inside.refusal (g.R.Source.left c.args.source.now) c.gather.new.blocks (g.R.Source.left c.gather.new.source)
    c.in-Ok-Rest.field-0 c.gather.new.line.items c.self.view_is c.in-Ok-Rest.ensures.bytes
    c.end.result c.deref-in-Ok-Rest.result.now c.in-Ok-Rest.field-0-is c.deref-in-Ok-Rest.ensures.value c.end.ensures.answer

pub returns-in-Ok-Faulty-clause-answer : goal.returns-in-Ok-Faulty-clause-answer
returns-in-Ok-Faulty-clause-answer g c =
    told_faulty c.args.self.now c.self.inside.spot c.self.inside.blocks c.self.inside.refusal (g.R.Source.left c.args.source.now) c.gather.new.blocks (g.R.Source.left c.gather.new.source)
    c.in-Ok-Faulty.field-0 c.gather.new.line.items c.self.view_is c.in-Ok-Faulty.ensures.bytes
    c.fault.result c.in-Ok-Faulty.kind c.in-Ok-Faulty.field-0-is c.fault.ensures

pub returns-in-Err-Failed-clause-answer : goal.returns-in-Err-Failed-clause-answer
returns-in-Err-Failed-clause-answer g c = answer_unread c.args.self.now (g.R.Source.left c.args.source.now) _ (Err ReadFault) (λ old new. tt)

pub returns-in-Err-NoMemory-clause-answer : goal.returns-in-Err-NoMemory-clause-answer
returns-in-Err-NoMemory-clause-answer g c = answer_unread c.args.self.now (g.R.Source.left c.args.source.now) _ (Err NoMemory) (λ old new. tt)

pub returns-in-Ok-Rest-clause-stays : goal.returns-in-Ok-Rest-clause-stays
returns-in-Ok-Rest-clause-stays g c =
    stays_at_end c.end.result c.args.self.now c.self.inside.spot c.self.inside.blocks c.gather.new.blocks c.self.inside.refusal c.deref-in-Ok-Rest.result.now c.gather.new.line.items
    c.self.view_is c.deref-in-Ok-Rest.ensures.value c.end.ensures.none (c.in-Ok-Rest.ensures.rest (ap Ok c.in-Ok-Rest.field-0-is))

pub returns-in-Ok-Rest-clause-spent : goal.returns-in-Ok-Rest-clause-spent
returns-in-Ok-Rest-clause-spent g c = where_none c.end.result _ (c.in-Ok-Rest.ensures.spent (ap Ok c.in-Ok-Rest.field-0-is))
