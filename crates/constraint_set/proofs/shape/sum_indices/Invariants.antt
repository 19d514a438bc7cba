use Rattle.std.proofs.Common.{◌≡◌}
use Rattle.std.specs.Prelude.{filter}
use Rattle.std.specs.List.{range_with_len}
use Rattle.constraint_set.specs.Readers.{is_sum_at}
use Rattle.constraint_set.proofs.shape.sum_indices.Given as goal

-- the sums among the first articulations
abbrev pub invariant-loop-index : goal.invariant-loop-index
invariant-loop-index l = l.sums.items ≡ filter (is_sum_at l.articulations) (range_with_len 0 l.index)
