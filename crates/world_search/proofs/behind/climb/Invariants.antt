use Rattle.std.proofs.Common.{length}
use Rattle.world_search.proofs.LeastNodes.{IsClimb}
use Rattle.world_search.proofs.behind.climb.Given as goal

abbrev pub invariant-loop-rel : goal.invariant-loop-rel
invariant-loop-rel l = IsClimb l.problem l.initial.path l.path

abbrev pub decreases-loop-rel : goal.decreases-loop-rel
decreases-loop-rel l = length l.path
