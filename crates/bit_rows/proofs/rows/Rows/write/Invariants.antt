use Rattle.bit_rows.specs.Rows.{meets_at}
use Rattle.bit_rows.specs.contracts.rows.Rows.{the_view}
use Rattle.bit_rows.proofs.RowBits.{IsWriting}
use Rattle.bit_rows.proofs.rows.Rows.write.Given as goal

abbrev pub invariant-loop-i : goal.invariant-loop-i
invariant-loop-i l = IsWriting (the_view l.initial.self-inside) (the_view l.self-inside) l.row l.i (meets_at l.one l.other l.sides.left.now l.sides.right.now l.cells)
