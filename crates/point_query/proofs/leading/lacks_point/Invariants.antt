use Rattle.std.proofs.Common.{◌≡◌}
use Rattle.point_pool.specs.Pools.{IsPool}
use Rattle.point_query.specs.Queries.{KeepsSolver}
use Rattle.point_query.proofs.leading.lacks_point.Given as goal

abbrev pub invariant-loop-part : goal.invariant-loop-part
invariant-loop-part l = record {
  pool : IsPool l.pool;
  cursor : l.pool.cursor ≡ l.fn.pool.cursor;
  solver : KeepsSolver l.fn.pool.cursor.problem l.fn.solver l.solver;
}
