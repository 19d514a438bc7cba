use Rattle.std.proofs.Common.{◌*◌, ◌&&◌}
use Rattle.bit_rows.specs.Rows.{has_bit, in_cells}
use Rattle.bit_rows.proofs.WordBits.{NoneBelow}
use Rattle.bit_rows.proofs.words.meets.Given as goal

abbrev pub invariant-loop-i : goal.invariant-loop-i
invariant-loop-i l = NoneBelow (λ k. has_bit l.one k && has_bit l.other k && in_cells l.cells (has_bit l.sides.left.now k) (has_bit l.sides.right.now k)) (64 * l.i)
