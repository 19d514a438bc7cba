use Rattle.std.proofs.Common.{◌≡◌, ◌==◌}
use Rattle.std.specs.Prelude.{filter, slice_index}
use Rattle.std.specs.List.{range_with_len}
use Rattle.merge_print.proofs.merge.class.Given as goal

abbrev pub invariant-loop-concept : goal.invariant-loop-concept
invariant-loop-concept l = l.class.items ≡ filter (λ x. slice_index l.leaders x == l.leader) (range_with_len 0 l.concept)
