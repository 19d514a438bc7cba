use Rattle.std.proofs.Common.{◌≡◌, ◌*◌, false}
use Rattle.bit_rows.specs.Rows.{has_bit}
use Rattle.bit_rows.proofs.WordBits.{NoneBelow, SingleBelow}
use Rattle.bit_rows.proofs.words.has_single.Given as goal

abbrev pub invariant-loop-word : goal.invariant-loop-word
invariant-loop-word l = record {
  none : l.found ≡ false → NoneBelow (has_bit l.row) (64 * l.word-index);
  single : SingleBelow l.row (64 * l.word-index);
}
