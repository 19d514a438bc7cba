use Rattle.std.proofs.Common.{◌≡◌, length}
use Rattle.proof_text.specs.Lines.{literal_in, list_of}
use Rattle.proof_text.proofs.ListLemmas.{behind}
use Rattle.proof_text.proofs.reading.read_literals.Given as goal

-- the items so far and those of the words to come are those of all the words
abbrev pub invariant-loop-word : goal.invariant-loop-word
invariant-loop-word l = behind l.lits.items (list_of literal_in l.words) ≡ list_of literal_in l.fn.words

abbrev pub decreases-loop-word : goal.decreases-loop-word
decreases-loop-word l = length l.words
