use Rattle.std.proofs.Common.{◌≡◌, ◌<◌, ◌≤◌, ℕ, length}
use Rattle.std.specs.Prelude.{slice_index_or}
use Rattle.rcc5_core.specs.declared.Rel.TheVariants.{Disjoint}
use Rattle.rcc5_core.specs.RelationSet.{adding}
use Rattle.world_watch.specs.Kinds.{set_at}
use Rattle.world_watch.proofs.seen.mark.Given as goal

-- the pairs so far are marked, and the others are as before
abbrev pub invariant-loop-pair : goal.invariant-loop-pair
invariant-loop-pair l = record {
  counted : length l.sets.items ≡ length l.initial.sets.items;
  marked : (k : ℕ) → k < l.pair → set_at l.sets.items k ≡ adding (set_at l.initial.sets.items k) (slice_index_or l.rels k Disjoint);
  others : (k : ℕ) → l.pair ≤ k → set_at l.sets.items k ≡ set_at l.initial.sets.items k;
}
