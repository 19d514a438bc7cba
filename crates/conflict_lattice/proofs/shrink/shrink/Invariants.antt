use Rattle.std.proofs.Common.{◌≡◌}
use Rattle.family_solver.specs.Kept.Keeping.{IsWithin}
use Rattle.conflict_lattice.specs.Rounds.{IsJudge, IsShrunk}
use Rattle.conflict_lattice.proofs.shrink.shrink.Given as goal

-- what is left is in conflict, and the first articulations of it are needed
abbrev pub invariant-places : goal.invariant-places
invariant-places l = record {
  shape : l.asker.shape ≡ l.fn.asker.shape;
  judge : IsJudge l.problem l.judge;
  so : IsShrunk l.problem l.place l.core.items;
  within : IsWithin l.core.items l.fn.clash.items;
}
