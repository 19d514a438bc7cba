use Rattle.std.proofs.Common.{◌≡◌}
use Rattle.std.specs.Prelude.{filter}
use Rattle.std.specs.List.{range_with_len}
use Rattle.merge_print.specs.Merged.{row_has}
use Rattle.merge_print.proofs.order.Below.all_above.Given as goal

abbrev pub invariant-loop-other : goal.invariant-loop-other
invariant-loop-other l = l.above.items ≡ filter (row_has l.self l.class) (range_with_len 0 l.other)
