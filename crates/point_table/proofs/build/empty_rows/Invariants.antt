use Rattle.std.proofs.Common.{◌≡◌, ℕ, false}
use Rattle.bit_rows.specs.Rows.{bit_in}
use Rattle.point_table.proofs.build.empty_rows.Given as goal

abbrev pub invariant-loop-row : goal.invariant-loop-row
invariant-loop-row l = record {
  count : l.rows.count ≡ l._row;
  width : l.rows.width ≡ l.width;
  empty : (r k : ℕ) → bit_in l.rows r k ≡ false;
}
