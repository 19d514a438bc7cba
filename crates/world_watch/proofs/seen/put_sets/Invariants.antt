use Rattle.std.proofs.Common.{◌≡◌, ◌++◌}
use Rattle.std.specs.Prelude.{flat_map}
use Rattle.std.specs.List.{range_with_len}
use Rattle.rcc5_core.specs.RelationSet.{has}
use Rattle.world_watch.specs.Kinds.{seen_line, set_at}
use Rattle.world_watch.proofs.seen.put_sets.Given as goal

abbrev pub invariant-loop-pair : goal.invariant-loop-pair
invariant-loop-pair l = l.out.items ≡ l.fn.out.items ++ flat_map (λ k. seen_line l.problem (has (set_at l.sets k)) k) (range_with_len 0 l.pair)
