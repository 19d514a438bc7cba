use Rattle.std.proofs.Common.{◌≡◌, map, take}
use Rattle.cert_text.proofs.copy.copy_lists.Given as goal

abbrev pub invariant-loop-list : goal.invariant-loop-list
invariant-loop-list l = map (λ v. v.items) l.copy.items ≡ map (λ v. v.items) (take l.list-index l.lists)
