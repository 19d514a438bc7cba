use Rattle.std.proofs.Common.{◌≡◌, length}
use Rattle.point_query.specs.Queries.{KeepsSolver}
use Rattle.point_pool.specs.Pools.{IsPool}
use Rattle.point_query.proofs.settle.settle.Given as goal

abbrev pub invariant-loop-number : goal.invariant-loop-number
invariant-loop-number l = record {
  pool : IsPool l.pool;
  cursor : l.pool.cursor ≡ l.fn.pool.cursor;
  solver : KeepsSolver l.fn.pool.cursor.problem l.fn.solver l.solver;
}

abbrev pub decreases-loop-number : goal.decreases-loop-number
decreases-loop-number l = length l.pool.waiting
