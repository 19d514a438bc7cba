use Rattle.std.proofs.Common.{ℕ, ◌<◌, get_or, length}
use Rattle.std.specs.Prelude.{Contains}
use Rattle.point_pool.specs.Pools.{HasOwn, served_at}
use Rattle.point_pool.proofs.pool.Pool.at_risk.Given as goal

abbrev pub invariant-loop-place : goal.invariant-loop-place
invariant-loop-place l = record {
  own : HasOwn l.list.items (length l.self.cursor.path) l.fn.rel;
  listed : (k : ℕ) → k < l.place-index → (number : ℕ) → Contains (served_at l.self.serves.items (get_or l.place-items k 0)) number → Contains l.list.items number;
}
