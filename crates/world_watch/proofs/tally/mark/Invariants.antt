use Rattle.std.proofs.Common.{◌≡◌, ◌<◌, ◌≤◌, ℕ, length}
use Rattle.std.specs.Prelude.{slice_index_or}
use Rattle.rcc5_core.specs.declared.Rel.TheVariants.{Disjoint}
use Rattle.world_watch.specs.Counts.{counts_at, counting}
use Rattle.world_watch.proofs.tally.mark.Given as goal

-- the pairs so far are marked, and the others are as before
abbrev pub invariant-loop-pair : goal.invariant-loop-pair
invariant-loop-pair l = record {
  counted : length l.counts.items ≡ length l.initial.counts.items;
  marked : (k : ℕ) → k < l.pair → counts_at l.counts.items k ≡ counting (counts_at l.initial.counts.items k) (slice_index_or l.rels k Disjoint);
  others : (k : ℕ) → l.pair ≤ k → counts_at l.counts.items k ≡ counts_at l.initial.counts.items k;
}
