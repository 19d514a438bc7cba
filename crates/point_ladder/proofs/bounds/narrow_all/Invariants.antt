use Rattle.std.proofs.Common.{◌≡◌}
use Rattle.point_ladder.specs.Bounds.{AreBounds}
use Rattle.point_ladder.proofs.bounds.narrow_all.Given as goal

abbrev pub invariant-loop-pair : goal.invariant-loop-pair
invariant-loop-pair l = record {
  bounds : AreBounds l.problem l.bounds;
  next : l.bounds.count ≡ l.pair;
}
