use Rattle.point_table.proofs.PointTests.{AreAllowedBelow}
use Rattle.point_table.proofs.points.allowed_sets.Given as goal

abbrev pub invariant-loop-pair : goal.invariant-loop-pair
invariant-loop-pair l = AreAllowedBelow l.problem l.sets.items l.pair
