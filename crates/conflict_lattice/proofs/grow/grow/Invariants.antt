use Rattle.std.proofs.Common.{◌≡◌}
use Rattle.family_solver.specs.Kept.Keeping.{IsWithin}
use Rattle.conflict_lattice.specs.Rounds.{IsGrown, IsJudge}
use Rattle.conflict_lattice.proofs.grow.grow.Given as goal

-- what is kept holds together, and none of the first articulations can be added
abbrev pub invariant-places : goal.invariant-places
invariant-places l = record {
  shape : l.asker.shape ≡ l.fn.asker.shape;
  judge : IsJudge l.problem l.judge;
  so : IsGrown l.problem l.place l.kept.items;
  within : IsWithin l.seed l.kept.items;
}
