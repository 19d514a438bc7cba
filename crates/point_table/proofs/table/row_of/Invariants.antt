use Rattle.std.proofs.Common.{◌≡◌, ◌*◌, ◌<◌, ℕ, length}
use Rattle.world_model.specs.Alive.{bit_of, point_at}
use Rattle.bit_rows.specs.Rows.{has_bit}
use Rattle.point_table.proofs.table.row_of.Given as goal

abbrev pub invariant-loop-i : goal.invariant-loop-i
invariant-loop-i l = record {
  counted : length l.row.items ≡ l.i;
  bits : (k : ℕ) → k < 64 * l.i → has_bit l.row.items k ≡ bit_of (point_at l.points k) l.concept;
}
