use Rattle.std.proofs.Common.{◌≡◌, ℕ, ◌<◌, get_or, length}
use Rattle.family_solver.specs.Kept.Keeping.{IsDenied, IsWithin}
use Rattle.family_solver.proofs.kept.flags.core_of.Given as goal

abbrev pub invariant-loop-place : goal.invariant-loop-place
invariant-loop-place l = record {
  flags : length l.core.items ≡ length l.kept;
  within : IsWithin l.core.items l.kept;
  denied : (k : ℕ) → k < l.place → IsDenied l.ground l.core.items (get_or l.clause k 0);
}
