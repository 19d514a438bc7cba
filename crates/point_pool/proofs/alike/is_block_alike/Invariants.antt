use Rattle.std.proofs.Common.{◌≡◌, ℕ, ◌<◌, true, get_or}
use Rattle.rcc5_core.specs.declared.Rel.TheVariants.{Equals}
use Rattle.point_pool.proofs.alike.is_block_alike.Given as goal

abbrev pub invariant-loop-place : goal.invariant-loop-place
invariant-loop-place l = record {
  each : l.alike ≡ true → (k : ℕ) → k < l.place → get_or l.left k Equals ≡ get_or l.right k Equals;
}
