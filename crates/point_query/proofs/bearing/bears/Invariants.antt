use Rattle.std.proofs.Common.{◌≡◌, ℕ, ◌<◌, get_or}
use Rattle.point_pool.specs.Pools.{IsPool}
use Rattle.point_query.specs.Closing.{IsKeptAfter}
use Rattle.point_query.specs.Queries.{KeepsSolver}
use Rattle.point_query.proofs.bearing.bears.Given as goal

abbrev pub invariant-loop-number : goal.invariant-loop-number
invariant-loop-number l = record {
  solver : KeepsSolver l.fn.pool.cursor.problem l.fn.solver l.solver;
  pool : IsPool l.pool;
  cursor : l.pool.cursor ≡ l.fn.pool.cursor;
  kept : (k : ℕ) → k < l.number-index → IsKeptAfter l.fn.pool.cursor l.fn.rel (get_or l.number-items k 0);
}
