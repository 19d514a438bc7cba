use Rattle.std.proofs.Common.{◌≡◌, ℕ}
use Rattle.std.specs.Prelude.{nat_lt}
use Rattle.bit_rows.specs.Rows.{bit_in}
use Rattle.point_ladder.proofs.start.full_row.Given as goal

abbrev pub invariant-loop-place : goal.invariant-loop-place
invariant-loop-place l = record {
  count : l.rows.count ≡ 1;
  width : l.rows.width ≡ l.width;
  bits : (k : ℕ) → bit_in l.rows 0 k ≡ nat_lt k l.place;
}
