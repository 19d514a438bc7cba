use Rattle.std.proofs.Common.{◌≡◌, true, take}
use Rattle.constraint_set.specs.Facts.{all_different}
use Rattle.cleantax_text.proofs.naming.are_different.Given as goal

abbrev pub invariant-loop-number : goal.invariant-loop-number
invariant-loop-number l = record {
  keys : l.seen.keys ≡ take l.number-index l.numbers;
  once : all_different (take l.number-index l.numbers) ≡ true;
}
