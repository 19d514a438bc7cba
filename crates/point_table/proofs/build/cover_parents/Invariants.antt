use Rattle.point_table.specs.Growing.{AreCovers}
use Rattle.point_table.proofs.Building.{IsCoveredSo}
use Rattle.point_table.proofs.build.cover_parents.Given as goal

abbrev pub invariant-loop-concept : goal.invariant-loop-concept
invariant-loop-concept l = record {
  same : IsCoveredSo l.initial.rules l.rules;
  covers : AreCovers l.problem l.rules.heads.items l.rules.covers;
}
