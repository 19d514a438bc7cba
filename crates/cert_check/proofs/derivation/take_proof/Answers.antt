use Rattle.cert_check.proofs.WholeLemmas.{proof_taken, proof_not_taken}
use Rattle.cert_check.proofs.derivation.take_proof.Goals as goal

pub returns-in-Ok-clause-taken : goal.returns-in-Ok-clause-taken
returns-in-Ok-clause-taken c checker = proof_taken checker c.args.book.now c.add_line.new.self c.args.line.now c.in-Ok.ensures.fault c.in-Ok.ensures.next

pub returns-in-Err-clause-taken : goal.returns-in-Err-clause-taken
returns-in-Err-clause-taken c checker =
    proof_not_taken checker c.args.book.now c.add_line.new.self c.args.line.now c.in-Err.fault c.stop_at.result c.stop_at.ensures c.in-Err.ensures.fault
