use Rattle.std.proofs.Common.{◌≡◌, ◌-◌}
use Rattle.std.specs.Prelude.{bytes_eq, find}
use Rattle.std.specs.List.{range_with_len}
use Rattle.world_model.specs.Problem.{concept_count}
use Rattle.cleantax_text.specs.Canonical.{concept_text, concept_named}
use Rattle.cleantax_text.proofs.named.concept_named.Given as goal

abbrev pub invariant-loop-concept : goal.invariant-loop-concept
invariant-loop-concept l =
    concept_named l.problem l.word ≡ find (λ c. bytes_eq (concept_text l.problem c) l.word) (range_with_len l.concept (concept_count l.problem - l.concept))
