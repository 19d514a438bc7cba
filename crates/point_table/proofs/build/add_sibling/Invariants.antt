use Rattle.point_table.specs.Growing.{AreExcluded, IsSameSize}
use Rattle.point_table.proofs.build.add_sibling.Given as goal

abbrev pub invariant-loop-other : goal.invariant-loop-other
invariant-loop-other l = record {
  size : IsSameSize l.initial.excluded l.excluded;
  rules : AreExcluded l.problem l.excluded;
}
