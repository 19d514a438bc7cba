use Rattle.point_table.specs.Growing.{AreImplied, IsSameSize}
use Rattle.point_table.proofs.build.add_parent.Given as goal

abbrev pub invariant-loop-child : goal.invariant-loop-child
invariant-loop-child l = record {
  size : IsSameSize l.initial.implied l.implied;
  rules : AreImplied l.problem l.implied;
}
