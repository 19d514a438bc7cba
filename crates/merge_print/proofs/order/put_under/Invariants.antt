use Rattle.std.proofs.Common.{◌≡◌, ◌+◌, ◌++◌, map, take}
use Rattle.merge_print.proofs.order.put_under.Given as goal

abbrev pub invariant-loop-other : goal.invariant-loop-other
invariant-loop-other l = l.list.items ≡ l.fn.list.items ++ map (λ q. (l.class + 1, q + 1)) (take l.other-index l.above)
