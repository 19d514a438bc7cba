use Rattle.world_model.specs.Problem.{Problem}
use Rattle.point_table.specs.Growing.{AreImplied, AreExcluded, IsSameSize}
use Rattle.point_table.proofs.build.close.Given as goal

abbrev pub invariant-loop-concept : goal.invariant-loop-concept
invariant-loop-concept l = record {
  size : IsSameSize l.initial.implied l.implied;
  rules : (p : Problem) → AreImplied p l.initial.implied → AreImplied p l.implied;
}

abbrev pub invariant-loop-concept-2 : goal.invariant-loop-concept-2
invariant-loop-concept-2 l = record {
  size : IsSameSize l.initial.excluded l.excluded;
  rules : (p : Problem) → AreImplied p l.implied → AreExcluded p l.initial.excluded → AreExcluded p l.excluded;
}
