use Rattle.std.proofs.Common.{◌≡◌, length, map}
use Rattle.cert_text.specs.Lines.{sets_of}
use Rattle.cert_text.proofs.EachLemmas.{behind}
use Rattle.cert_text.proofs.reading.read_sets.Given as goal

-- the sets so far and those of the words to come are those of all the words
abbrev pub invariant-loop-word : goal.invariant-loop-word
invariant-loop-word l = behind (map (λ v. v.items) l.sets.items) (sets_of l.words) ≡ sets_of l.fn.words

abbrev pub decreases-loop-word : goal.decreases-loop-word
decreases-loop-word l = length l.words
