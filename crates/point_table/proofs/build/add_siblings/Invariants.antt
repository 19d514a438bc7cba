use Rattle.point_table.specs.Growing.{AreExcluded, IsSameSize}
use Rattle.point_table.proofs.build.add_siblings.Given as goal

abbrev pub invariant-loop-child : goal.invariant-loop-child
invariant-loop-child l = record {
  size : IsSameSize l.initial.excluded l.excluded;
  rules : AreExcluded l.problem l.excluded;
}
