use Rattle.std.proofs.Common.{◌≡◌, ◌∷◌, ◌++◌, [], take}
use Rattle.world_model.specs.Alive.{problem_at, IsAlive}
use Rattle.point_query.specs.Queries.{KeepsSolver}
use Rattle.point_pool.specs.Pools.{IsPool}
use Rattle.point_query.proofs.Choosing.{HasThose}
use Rattle.point_query.proofs.leading.each_tried.Given as goal

abbrev pub invariant-loop-rel : goal.invariant-loop-rel
invariant-loop-rel l = record {
  solver : KeepsSolver l.fn.pool.cursor.problem l.fn.solver l.solver;
  pool : IsPool l.pool;
  cursor : l.pool.cursor ≡ l.fn.pool.cursor;
  each : HasThose (λ rel. IsAlive (problem_at l.fn.pool.cursor.problem (l.fn.pool.cursor.path ++ rel ∷ []))) (take l.rel-index l.rel-items) l.alive;
}
