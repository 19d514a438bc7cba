use Rattle.std.proofs.Common.{◌≡◌, map, take}
use Rattle.merge_print.specs.Merged.{is_within}
use Rattle.merge_print.proofs.order.row_of.Given as goal

abbrev pub invariant-loop-other : goal.invariant-loop-other
invariant-loop-other l = l.row.items ≡ map (is_within l.problem l.table l.head) (take l.other-index l.heads)
