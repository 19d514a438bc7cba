use Rattle.std.proofs.Common.{◌≡◌, map, take}
use Rattle.merge_print.specs.Merged.{is_within}
use Rattle.merge_print.proofs.order.Below.new.Given as goal

abbrev pub invariant-loop-head : goal.invariant-loop-head
invariant-loop-head l = map (λ v. v.items) l.rows.items ≡ map (λ h. map (is_within l.problem l.table h) l.heads) (take l.head-index l.heads)
