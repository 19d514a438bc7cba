use Rattle.std.proofs.Common.{◌*◌}
use Rattle.bit_rows.specs.Rows.{has_bit}
use Rattle.bit_rows.proofs.WordBits.{NoneBelow}
use Rattle.bit_rows.proofs.words.first_place.Given as goal

abbrev pub invariant-loop-i : goal.invariant-loop-i
invariant-loop-i l = record { none : NoneBelow (has_bit l.row) (64 * l.i) }
