use Rattle.std.proofs.Common.{length}
use Rattle.outer_store.specs.Sent.{SentInPart}
use Rattle.outer_store.proofs.real.write_whole.Given as goal

abbrev pub invariant-pieces : goal.invariant-pieces
invariant-pieces g l = SentInPart (g.W.Write.contents l.initial.writer) (g.W.Write.contents l.writer) l.bytes l.rest

abbrev pub decreases-pieces : goal.decreases-pieces
decreases-pieces g l = length l.rest
