use Rattle.std.proofs.Common.{◌≡◌, take}
use Rattle.world_walk.proofs.walk.position_of.Given as goal

abbrev pub invariant-loop-rel : goal.invariant-loop-rel
invariant-loop-rel l = l.position ≡ take l.rel-index l.table
