use Rattle.world_model.specs.Problem.{Problem}
use Rattle.point_table.specs.Growing.{AreImplied, AreExcluded, IsSameSize}
use Rattle.point_table.proofs.build.spread_excluded.Given as goal

abbrev pub invariant-loop-row : goal.invariant-loop-row
invariant-loop-row l = record {
  size : IsSameSize l.initial.excluded l.excluded;
  rules : (p : Problem) → AreImplied p l.implied → AreExcluded p l.initial.excluded → AreExcluded p l.excluded;
}
