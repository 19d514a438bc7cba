use Rattle.std.proofs.Common.{◌≡◌, ◌-◌, ◌<◌, ℕ, length, false}
use Rattle.point_table.specs.Places.Places.{meets}
use Rattle.point_pool.specs.Pools.{IsFewer, IsStriking}
use Rattle.point_pool.proofs.pool.Pool.strike_cell.Given as goal

abbrev pub invariant-loop-place : goal.invariant-loop-place
invariant-loop-place l = record {
  striking : IsStriking l.self;
  cursor : l.self.cursor ≡ l.fn.self.cursor;
  fewer : IsFewer l.fn.self.places l.self.places;
  done : (k : ℕ) → k < l.from → meets l.self.places l.one l.other k ≡ false;
}

abbrev pub decreases-loop-place : goal.decreases-loop-place
decreases-loop-place l = length l.fn.self.places.points - l.from
