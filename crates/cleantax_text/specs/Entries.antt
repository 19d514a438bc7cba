-- An entry whose words are read: its concepts are looked up.
use Rattle.std.specs.Prelude.{ℕ, List, not, Result, bytes_eq}
use Rattle.std.specs.List.{list_any}
use Rattle.rcc5_core.specs.declared.RelSet.{RelSet}
use Rattle.world_model.specs.declared.Articulation.TheVariants.{Sum}
use Rattle.constraint_set.specs.Facts.{all_different}
use Rattle.cleantax_text.specs.declared.TextKind.{TextKind}
use Rattle.cleantax_text.specs.declared.TextKind.TheVariants.{UnknownConcept, SameTaxonomy, PartTwice}
use Rattle.cleantax_text.specs.Reading.{Reading, fail_if, need, concept_number, concept_numbers, pair_of, with_articulation}

-- of two concepts
abbrev pub after_related : Reading → List ℕ × List ℕ → List ℕ × List ℕ → RelSet → Result Reading TextKind
after_related r a b set =
    need (concept_number r a) UnknownConcept (λ i.
    need (concept_number r b) UnknownConcept (λ j.
    fail_if (bytes_eq a.0 b.0) SameTaxonomy
    (with_articulation r (pair_of i j set))))

-- of a sum
abbrev pub after_summed : Reading → List ℕ × List ℕ → List (List ℕ × List ℕ) → Result Reading TextKind
after_summed r a bs =
    need (concept_number r a) UnknownConcept (λ i.
    need (concept_numbers r bs) UnknownConcept (λ js.
    fail_if (list_any (λ b. bytes_eq a.0 b.0) bs) SameTaxonomy
    (fail_if (not (all_different js)) PartTwice
    (with_articulation r (Sum i js)))))
