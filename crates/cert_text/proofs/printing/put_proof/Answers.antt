use Rattle.proof_text.specs.Lines.{line_text}
use Rattle.proof_text.proofs.LineLemmas.{line_of-read}
use Rattle.std.proofs.lemmas.Result.{on_ok_weaker}
use Rattle.cert_text.proofs.printing.put_proof.Goals as goal

pub returns-clause-small : goal.returns-clause-small
returns-clause-small c = on_ok_weaker c.put_line.result (λ read. (line_of-read (line_text c.args.line.now) c.args.line.now read).1) c.put_line.ensures.read
