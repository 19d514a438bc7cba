use Rattle.std.proofs.Common.{◌≡◌, ◌^◌, ◌<◌, drop}
use Rattle.proof_text.specs.Numbers.{digits_in}
use Rattle.proof_text.proofs.NumberLemmas.{continued}
use Rattle.proof_text.proofs.numbers.value_of.Given as goal

-- the number so far and the digits to come give what all the digits give
abbrev pub invariant-loop-digit : goal.invariant-loop-digit
invariant-loop-digit l = record {
  small : l.number < 2 ^ 64;
  given : continued l.number (drop l.digit-index l.digits) ≡ digits_in l.digits;
}
