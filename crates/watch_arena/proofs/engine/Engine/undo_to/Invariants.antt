use Rattle.std.proofs.Common.{length}
use Rattle.watch_arena.proofs.DroppedPlaces.{Undone}
use Rattle.watch_arena.proofs.engine.Engine.undo_to.Given as goal

abbrev pub invariant-loop-self : goal.invariant-loop-self
invariant-loop-self l = Undone l.initial.self l.self l.level

abbrev pub decreases-loop-self : goal.decreases-loop-self
decreases-loop-self l = length l.self.places.list
