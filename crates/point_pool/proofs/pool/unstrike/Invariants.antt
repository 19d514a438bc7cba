use Rattle.std.proofs.Common.{◌≡◌, ◌⊎◌, ℕ, true}
use Rattle.bit_rows.specs.Rows.{has_bit}
use Rattle.point_pool.specs.Pools.{IsListed}
use Rattle.point_pool.proofs.pool.unstrike.Given as goal

abbrev pub invariant-loop-number : goal.invariant-loop-number
invariant-loop-number l = record {
  concepts : l.places.concepts ≡ l.fn.places.concepts;
  points : l.places.points ≡ l.fn.places.points;
  used : l.places.used ≡ l.fn.places.used;
  stay : (place : ℕ) → has_bit l.fn.places.live place ≡ true → has_bit l.places.live place ≡ true;
  live : (place : ℕ) → has_bit l.places.live place ≡ true → (has_bit l.fn.places.live place ≡ true) ⊎ IsListed l.struck.items l.start place;
}
