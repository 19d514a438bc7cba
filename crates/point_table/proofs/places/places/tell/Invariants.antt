use Rattle.std.proofs.Common.{◌≡◌, ◌≢◌, ℕ, ◌<◌, length, get_or, false, []}
use Rattle.bit_rows.specs.Rows.{has_bit}
use Rattle.point_table.proofs.places.places.tell.Given as goal

abbrev pub invariant-loop-concept : goal.invariant-loop-concept
invariant-loop-concept l = record {
  told : (c : ℕ) → c < l.concept → has_bit (get_or l.rows.items c []) l.place ≡ get_or l.bits c false;
  others : (c k : ℕ) → k ≢ l.place → has_bit (get_or l.rows.items c []) k ≡ has_bit (get_or l.fn.rows.items c []) k;
  len : length l.rows.items ≡ length l.fn.rows.items;
}
