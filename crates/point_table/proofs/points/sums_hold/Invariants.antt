use Rattle.std.proofs.Common.{◌≡◌}
use Rattle.world_model.specs.Points.{sums_from}
use Rattle.point_table.proofs.points.sums_hold.Given as goal

-- what is left to test is what there was
abbrev pub invariant-loop-index : goal.invariant-loop-index
invariant-loop-index l = sums_from l.bits l.problem l.index ≡ sums_from l.bits l.problem 0
