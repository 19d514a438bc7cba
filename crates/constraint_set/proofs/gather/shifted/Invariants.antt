use Rattle.std.proofs.Common.{◌≡◌, ◌+◌, map, take}
use Rattle.constraint_set.proofs.gather.shifted.Given as goal

abbrev pub invariant-loop-child : goal.invariant-loop-child
invariant-loop-child l = l.list.items ≡ map (λ q. l.before + q) (take l.child-index l.children)
