use Rattle.bit_rows.specs.contracts.rows.Rows.{the_view}
use Rattle.bit_rows.proofs.RowBits.{IsWriting, joined_at}
use Rattle.bit_rows.proofs.rows.Rows.join.Given as goal

abbrev pub invariant-loop-i : goal.invariant-loop-i
invariant-loop-i l = IsWriting (the_view l.initial.self-inside) (the_view l.self-inside) l.row l.i (joined_at (the_view l.initial.self-inside) l.row l.other)
