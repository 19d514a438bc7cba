use Rattle.std.proofs.Common.{◌≡◌, map, take}
use Rattle.cleantax_text.specs.Canonical.{concept_text}
use Rattle.merge_print.proofs.names.class_names.Given as goal

abbrev pub invariant-loop-concept : goal.invariant-loop-concept
invariant-loop-concept l = map (λ v. v.items) l.names.items ≡ map (concept_text l.problem) (take l.concept-index l.class)
