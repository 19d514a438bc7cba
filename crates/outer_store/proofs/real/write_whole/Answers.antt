use Rattle.outer_store.proofs.SentLemmas.{SentInPart-cut}
use Rattle.outer_store.proofs.real.write_whole.Goals as goal

pub pieces-preserved : goal.pieces-preserved
pieces-preserved g c = SentInPart-cut _ _ _ _ c.pieces.rest.now c.in-Ok.count c.pieces.invariant c.in-Ok.ensures.bytes
