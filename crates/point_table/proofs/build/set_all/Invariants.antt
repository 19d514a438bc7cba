use Rattle.std.proofs.Common.{◌≡◌, ◌≢◌, ◌<◌, ℕ, true, get_or}
use Rattle.bit_rows.specs.Rows.{bit_in}
use Rattle.point_table.specs.Growing.{IsSameSize}
use Rattle.point_table.proofs.build.set_all.Given as goal

abbrev pub invariant-loop-part : goal.invariant-loop-part
invariant-loop-part l = record {
  size : IsSameSize l.initial.rows l.rows;
  others : (r k : ℕ) → r ≢ l.row → bit_in l.rows r k ≡ bit_in l.initial.rows r k;
  there : (i : ℕ) → i < l.part-index → bit_in l.rows l.row (get_or l.parts i 0) ≡ true;
}
