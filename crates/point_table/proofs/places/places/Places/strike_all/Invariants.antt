use Rattle.std.proofs.Common.{◌≡◌, ℕ, ◌-◌, ◌<◌, ◌≤◌, ◌&&◌, not, length}
use Rattle.bit_rows.specs.Rows.{has_bit}
use Rattle.point_table.specs.Places.Places.{are_as}
use Rattle.point_table.proofs.places.places.Places.strike_all.Given as goal

abbrev pub invariant-loop-place : goal.invariant-loop-place
invariant-loop-place l = record {
  concepts : l.self.concepts ≡ l.fn.self.concepts;
  points : l.self.points ≡ l.fn.self.points;
  done : (k : ℕ) → k < l.from → has_bit l.self.live k ≡ (has_bit l.fn.self.live k && not (are_as l.fn.self.points l.one l.other k));
  left : (k : ℕ) → l.from ≤ k → has_bit l.self.live k ≡ has_bit l.fn.self.live k;
}

abbrev pub decreases-loop-place : goal.decreases-loop-place
decreases-loop-place l = length l.fn.self.points - l.from
