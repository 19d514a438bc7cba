use Rattle.std.proofs.Common.{Some}
use Rattle.cert_reader.proofs.ReaderLemmas.{refused_read}
use Rattle.cert_reader.proofs.reader.CertReader.next.Goals as goal

pub returns-in-Err-clause-answer : goal.returns-in-Err-clause-answer
returns-in-Err-clause-answer g c = λ fresh.
    refused_read c.args.self.now c.read_next-answer.new.self c.self-2.inside.spot c.self-2.inside.blocks c.self-2.inside.refusal (Some c.in-Err.fault) (g.R.Source.left c.args.source.now)
    (g.R.Source.left c.read_next-answer.new.source) c.read_next-answer.result c.self-2.view_is c.read_next-answer.ensures.answer
