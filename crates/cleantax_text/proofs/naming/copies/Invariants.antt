use Rattle.std.proofs.Common.{◌≡◌, ◌++◌, length, map}
use Rattle.text_words.specs.Views.{words_meant}
use Rattle.cleantax_text.proofs.naming.copies.Given as goal

abbrev pub invariant-loop-rest : goal.invariant-loop-rest
invariant-loop-rest l = words_meant l.fn.words ≡ map (λ v. v.items) l.names.items ++ words_meant l.rest

abbrev pub decreases-loop-rest : goal.decreases-loop-rest
decreases-loop-rest l = length l.rest
