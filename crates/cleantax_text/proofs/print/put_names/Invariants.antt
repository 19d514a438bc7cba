use Rattle.std.proofs.Common.{◌≡◌, ◌++◌, map, take}
use Rattle.constraint_set.specs.Readers.{name_of}
use Rattle.cleantax_text.specs.Canonical.{spaced}
use Rattle.cleantax_text.proofs.print.put_names.Given as goal

abbrev pub invariant-loop-concept : goal.invariant-loop-concept
invariant-loop-concept l = l.out.items ≡ l.initial.out.items ++ spaced (map (name_of l.problem) (take l.concept-index l.list))
