use Rattle.std.proofs.Common.{◌≡◌, ◌≤◌, ℕ, length}
use Rattle.world_watch.specs.Kinds.{set_at}
use Rattle.world_watch.proofs.seen.grow.Given as goal

abbrev pub invariant-loop-more : goal.invariant-loop-more
invariant-loop-more l = record {
  same : (k : ℕ) → set_at l.sets.items k ≡ set_at l.initial.sets.items k;
  long : l._more ≤ length l.sets.items;
}
