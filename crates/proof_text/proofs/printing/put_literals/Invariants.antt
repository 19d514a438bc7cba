use Rattle.std.proofs.Common.{◌≡◌, ℕ, ◌^◌, ◌<◌, ◌++◌, get_or, drop}
use Rattle.proof_text.specs.Words.{parted}
use Rattle.proof_text.specs.Lines.{list_words, literal_text}
use Rattle.proof_text.proofs.printing.put_literals.Given as goal

-- what is put so far and the words to come are what all the words put
abbrev pub invariant-loop-lit : goal.invariant-loop-lit
invariant-loop-lit l = record {
  text : l.out.items ++ parted 32 (list_words literal_text (drop l.lit-index l.lits)) ≡ l.fn.out.items ++ parted 32 (list_words literal_text l.lits);
  small : (k : ℕ) → k < l.lit-index → get_or l.lits k 0 < 2 ^ 32;
}
