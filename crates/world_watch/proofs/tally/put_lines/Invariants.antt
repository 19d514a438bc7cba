use Rattle.std.proofs.Common.{◌≡◌, ◌++◌}
use Rattle.std.specs.Prelude.{flat_map}
use Rattle.std.specs.List.{range_with_len}
use Rattle.world_watch.specs.Kinds.{tally_line}
use Rattle.world_watch.specs.Counts.{counts_at, count_in}
use Rattle.world_watch.proofs.tally.put_lines.Given as goal

abbrev pub invariant-loop-pair : goal.invariant-loop-pair
invariant-loop-pair l = l.out.items ≡ l.fn.out.items ++ flat_map (λ k. tally_line l.problem (count_in (counts_at l.counts k)) k) (range_with_len 0 l.pair)
