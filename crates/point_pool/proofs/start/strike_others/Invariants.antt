use Rattle.std.proofs.Common.{◌≡◌, ◌<◌, ℕ, true}
use Rattle.std.specs.Prelude.{IsTrue}
use Rattle.std.specs.List.{list_all}
use Rattle.bit_rows.specs.Rows.{has_bit}
use Rattle.world_model.specs.Node.{pair_at}
use Rattle.world_model.specs.Points.{forced_at}
use Rattle.world_model.specs.Problem.{kept_sums, pair_count}
use Rattle.world_model.specs.Alive.{point_at, point_sums}
use Rattle.point_pool.specs.Pools.{AllAvoid, IsFewer}
use Rattle.point_pool.proofs.start.strike_others.Given as goal

abbrev pub invariant-loop-pair : goal.invariant-loop-pair
invariant-loop-pair l = record {
  fewer : IsFewer l.fn.places l.places;
  avoid : (k : ℕ) → k < l.pair → AllAvoid l.places (pair_at l.cursor.problem k) (forced_at l.cursor.problem k);
}

abbrev pub invariant-loop-place : goal.invariant-loop-place
invariant-loop-place l = record {
  fewer : IsFewer l.fn.places l.places;
  avoid : (k : ℕ) → k < pair_count l.cursor.problem → AllAvoid l.places (pair_at l.cursor.problem k) (forced_at l.cursor.problem k);
  sums : (k : ℕ) → k < l.place → has_bit l.places.live k ≡ true → IsTrue (list_all (point_sums (point_at l.places.points k)) (kept_sums l.cursor.problem));
}
