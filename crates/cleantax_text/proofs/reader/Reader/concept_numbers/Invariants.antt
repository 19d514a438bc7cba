use Rattle.std.proofs.Common.{◌≡◌, drop}
use Rattle.cleantax_text.specs.Reading.{concept_numbers}
use Rattle.text_words.specs.Views.{references_meant}
use Rattle.cleantax_text.specs.Views.{onto_numbers}
use Rattle.cleantax_text.specs.Kept.{meant}
use Rattle.cleantax_text.proofs.reader.Reader.concept_numbers.Given as goal

abbrev pub invariant-loop-reference : goal.invariant-loop-reference
invariant-loop-reference l = concept_numbers (meant l.self) (references_meant l.references) ≡ onto_numbers l.numbers.items (concept_numbers (meant l.self) (references_meant (drop l.reference-index l.references)))
