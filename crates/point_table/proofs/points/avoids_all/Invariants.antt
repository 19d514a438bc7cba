use Rattle.std.proofs.Common.{◌≡◌, true, take}
use Rattle.std.specs.List.{list_all}
use Rattle.world_model.specs.Points.{avoids_at}
use Rattle.point_table.proofs.points.avoids_all.Given as goal

abbrev pub invariant-loop-pair : goal.invariant-loop-pair
invariant-loop-pair l = list_all (avoids_at l.problem l.bits) (take l.pair-index l.pairs) ≡ true
