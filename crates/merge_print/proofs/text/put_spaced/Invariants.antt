use Rattle.std.proofs.Common.{◌≡◌, ◌++◌, map, take}
use Rattle.cleantax_text.specs.Canonical.{spaced}
use Rattle.merge_print.proofs.text.put_spaced.Given as goal

abbrev pub invariant-loop-name : goal.invariant-loop-name
invariant-loop-name l = l.out.items ≡ l.fn.out.items ++ spaced (map (λ v. v.items) (take l.name-index l.names))
