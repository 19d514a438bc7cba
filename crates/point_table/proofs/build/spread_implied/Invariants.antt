use Rattle.world_model.specs.Problem.{Problem}
use Rattle.point_table.specs.Growing.{AreImplied, IsSameSize}
use Rattle.point_table.proofs.build.spread_implied.Given as goal

abbrev pub invariant-loop-row : goal.invariant-loop-row
invariant-loop-row l = record {
  size : IsSameSize l.initial.implied l.implied;
  rules : (p : Problem) → AreImplied p l.initial.implied → AreImplied p l.implied;
}
