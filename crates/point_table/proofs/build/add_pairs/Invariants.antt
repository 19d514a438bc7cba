use Rattle.point_table.specs.Growing.{AreImplied, AreExcluded, IsSameSize}
use Rattle.point_table.proofs.build.add_pairs.Given as goal

abbrev pub invariant-loop-pair : goal.invariant-loop-pair
invariant-loop-pair l = record {
  implied_size : IsSameSize l.initial.implied l.implied;
  implied_rules : AreImplied l.problem l.implied;
  excluded_size : IsSameSize l.initial.excluded l.excluded;
  excluded_rules : AreExcluded l.problem l.excluded;
}
