use Rattle.std.proofs.Common.{◌≡◌, ◌++◌, drop, map, decimal}
use Rattle.proof_text.specs.Words.{parted}
use Rattle.cert_text.proofs.pieces.put_further.Given as goal

-- what is put so far and the numbers to come are what all of them put
abbrev pub invariant-loop-number : goal.invariant-loop-number
invariant-loop-number l = l.out.items ++ parted 44 (map decimal (drop l.number-index l.numbers)) ≡ l.fn.out.items ++ parted 44 (map decimal l.numbers)
