use Rattle.std.proofs.Common.{◌≡◌, ◌++◌, map, take, codes}
use Rattle.std.specs.Prelude.{flat_map}
use Rattle.merge_print.proofs.text.put_others.Given as goal

abbrev pub invariant-loop-name : goal.invariant-loop-name
invariant-loop-name l = l.out.items ≡ l.fn.out.items ++ flat_map (λ other. codes " = " ++ other) (map (λ v. v.items) (take l.name-index l.names))
