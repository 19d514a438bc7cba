use Rattle.std.proofs.Common.{◌≡◌, length}
use Rattle.text_words.specs.Words.{references_of}
use Rattle.text_words.specs.Views.{words_meant, references_meant, onto_references}
use Rattle.text_words.proofs.words.references_of.Given as goal

abbrev pub invariant-loop-rest : goal.invariant-loop-rest
invariant-loop-rest l = references_of (words_meant l.fn.words) ≡ onto_references (references_meant l.references.items) (references_of (words_meant l.rest))

abbrev pub decreases-loop-rest : goal.decreases-loop-rest
decreases-loop-rest l = length l.rest
