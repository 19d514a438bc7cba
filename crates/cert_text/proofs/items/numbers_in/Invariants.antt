use Rattle.std.proofs.Common.{◌≡◌, length}
use Rattle.cert_text.specs.Lines.{each_in, small_in}
use Rattle.cert_text.proofs.EachLemmas.{onto}
use Rattle.cert_text.proofs.items.numbers_in.Given as goal

abbrev pub invariant-loop-word : goal.invariant-loop-word
invariant-loop-word l = each_in small_in l.fn.words ≡ onto l.numbers.items (each_in small_in l.words)

abbrev pub decreases-loop-word : goal.decreases-loop-word
decreases-loop-word l = length l.words
