use Rattle.std.proofs.Common.{◌≡◌, map, take}
use Rattle.merge_print.specs.Merged.{class_of}
use Rattle.merge_print.proofs.merge.classes.Given as goal

abbrev pub invariant-loop-head : goal.invariant-loop-head
invariant-loop-head l = map (λ v. v.items) l.lists.items ≡ map (class_of l.leaders) (take l.head-index l.heads)
