use Rattle.std.proofs.Common.{◌≡◌, ◌++◌, drop, decimal}
use Rattle.proof_text.specs.Words.{parted}
use Rattle.proof_text.specs.Lines.{list_words}
use Rattle.proof_text.proofs.printing.put_ids.Given as goal

-- what is put so far and the words to come are what all the words put
abbrev pub invariant-loop-id : goal.invariant-loop-id
invariant-loop-id l = l.out.items ++ parted 32 (list_words decimal (drop l.id-index l.ids)) ≡ l.fn.out.items ++ parted 32 (list_words decimal l.ids)
