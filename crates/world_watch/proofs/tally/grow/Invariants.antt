use Rattle.std.proofs.Common.{◌≡◌, ◌≤◌, ℕ, length}
use Rattle.world_watch.specs.Counts.{counts_at}
use Rattle.world_watch.proofs.tally.grow.Given as goal

abbrev pub invariant-loop-more : goal.invariant-loop-more
invariant-loop-more l = record {
  same : (k : ℕ) → counts_at l.counts.items k ≡ counts_at l.initial.counts.items k;
  long : l._more ≤ length l.counts.items;
}
