use Rattle.std.proofs.Common.{◌≡◌, ◌++◌, map, take}
use Rattle.cleantax_text.specs.Canonical.{spaced, concept_text}
use Rattle.cleantax_text.proofs.print.put_concepts.Given as goal

abbrev pub invariant-loop-concept : goal.invariant-loop-concept
invariant-loop-concept l = l.out.items ≡ l.initial.out.items ++ spaced (map (concept_text l.problem) (take l.concept-index l.list))
