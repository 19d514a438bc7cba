use Rattle.std.proofs.Common.{◌≡◌, ◌+◌, map}
use Rattle.std.specs.Prelude.{flat_map}
use Rattle.std.specs.List.{range_with_len}
use Rattle.merge_print.specs.Merged.{just_above, row_has}
use Rattle.merge_print.proofs.order.list_under.Given as goal

abbrev pub invariant-loop-class : goal.invariant-loop-class
invariant-loop-class l = l.list.items ≡ flat_map (λ c. map (λ q. (c + 1, q + 1)) (just_above (row_has l.below) l.count c)) (range_with_len 0 l.class)
