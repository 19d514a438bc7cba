use Rattle.std.proofs.Common.{◌≡◌, ℕ, ◌<◌, ◌≤◌, length, true}
use Rattle.bit_rows.specs.Rows.{has_bit}
use Rattle.point_table.proofs.places.row.Row.set_below.Given as goal

abbrev pub invariant-loop-place : goal.invariant-loop-place
invariant-loop-place l = record {
  set : (k : ℕ) → k < l.place → has_bit l.self k ≡ true;
  others : (k : ℕ) → l.place ≤ k → has_bit l.self k ≡ has_bit l.fn.self k;
  len : length l.self ≡ length l.fn.self;
}
