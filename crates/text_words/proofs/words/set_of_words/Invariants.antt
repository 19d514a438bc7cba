use Rattle.std.proofs.Common.{◌≡◌, length}
use Rattle.text_words.specs.Words.{set_of_words}
use Rattle.text_words.specs.Views.{words_meant, set_onto}
use Rattle.text_words.proofs.words.set_of_words.Given as goal

abbrev pub invariant-loop-rest : goal.invariant-loop-rest
invariant-loop-rest l = set_of_words (words_meant l.fn.words) ≡ set_onto l.set (words_meant l.rest)

abbrev pub decreases-loop-rest : goal.decreases-loop-rest
decreases-loop-rest l = length l.rest
