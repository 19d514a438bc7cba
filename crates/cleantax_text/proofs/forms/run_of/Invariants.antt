use Rattle.std.proofs.Common.{◌≡◌, [], length}
use Rattle.text_words.specs.Tokens.{tokens_after}
use Rattle.text_words.specs.Views.{words_meant}
use Rattle.cleantax_text.specs.Views.{at_bracket, onto_run}
use Rattle.cleantax_text.proofs.forms.run_of.Given as goal

abbrev pub invariant-loop-token : goal.invariant-loop-token
invariant-loop-token l = at_bracket (tokens_after [] l.fn.line) ≡ onto_run (words_meant l.words.items) (at_bracket (tokens_after [] l.rest))

abbrev pub decreases-loop-token : goal.decreases-loop-token
decreases-loop-token l = length l.rest
