use Rattle.std.proofs.Common.{◌≡◌, ◌<◌, ◌++◌, ◌∷◌, [], length, ap, sym, subst}
use Rattle.std.specs.Prelude.{IsTrue, IfOk, OnOk}
use Rattle.rcc5_core.specs.RelationSet.{has}
use Rattle.world_model.specs.Problem.{pair_count}
use Rattle.world_model.specs.Node.{pair_at}
use Rattle.world_model.specs.Alive.{IsAlive, allowed, problem_at}
use Rattle.point_pool.specs.declared.pool.Pool.{Pool}
use Rattle.point_pool.specs.Pools.{IsPool}
use Rattle.point_query.specs.Queries.{IsSolverOf, KeepsSolver}
use Rattle.point_query.proofs.Querying.{keeps_still}
use Rattle.point_query.proofs.leading.is_ruled_out.Goals as goal

pub returns-in_err-again-clause-solver : goal.returns-in_err-again-clause-solver
returns-in_err-again-clause-solver c = keeps_still _ _ c.requires.solver

pub returns-then-again-clause-solver : goal.returns-then-again-clause-solver
returns-then-again-clause-solver c = keeps_still _ _ c.requires.solver

pub returns-then-again-clause-pool : goal.returns-then-again-clause-pool
returns-then-again-clause-pool c = subst IsPool (sym c.in_ok-again.ensures.same) c.requires.pool

pub returns-then-again-clause-cursor : goal.returns-then-again-clause-cursor
returns-then-again-clause-cursor c = ap (λ (w : Pool). w.cursor) c.in_ok-again.ensures.same

pub returns-then-again-clause-dead : goal.returns-then-again-clause-dead
returns-then-again-clause-dead c = λ _. c.in_ok-again.ensures.dead c.if-again.true

pub lacks_point-requires-clause-pool : goal.lacks_point-requires-clause-pool
lacks_point-requires-clause-pool c = subst IsPool (sym c.in_ok-again.ensures.same) c.requires.pool

pub lacks_point-requires-clause-within : goal.lacks_point-requires-clause-within
lacks_point-requires-clause-within c = subst (λ (w : Pool). length w.cursor.path < pair_count w.cursor.problem) (sym c.in_ok-again.ensures.same) c.requires.within

pub lacks_point-requires-clause-allowed : goal.lacks_point-requires-clause-allowed
lacks_point-requires-clause-allowed c =
    subst (λ (w : Pool). IsTrue (has (allowed w.cursor.problem (pair_at w.cursor.problem (length w.cursor.path))) c.args.rel)) (sym c.in_ok-again.ensures.same) c.requires.allowed

pub lacks_point-requires-clause-solver : goal.lacks_point-requires-clause-solver
lacks_point-requires-clause-solver c = subst (λ (w : Pool). IsSolverOf w.cursor.problem c.args.solver.now) (sym c.in_ok-again.ensures.same) c.requires.solver

pub returns-clause-solver : goal.returns-clause-solver
returns-clause-solver c = subst (λ (w : Pool). KeepsSolver w.cursor.problem c.args.solver.now c.lacks_point.new.solver) c.in_ok-again.ensures.same c.lacks_point.ensures.solver

pub returns-clause-cursor : goal.returns-clause-cursor
returns-clause-cursor c = subst (λ (w : Pool). OnOk c.lacks_point.result (c.lacks_point.new.pool.cursor ≡ w.cursor)) c.in_ok-again.ensures.same c.lacks_point.ensures.cursor

pub returns-clause-dead : goal.returns-clause-dead
returns-clause-dead c =
    subst (λ (w : Pool). IfOk c.lacks_point.result (λ dead. IsTrue dead → IsAlive (problem_at w.cursor.problem (w.cursor.path ++ c.args.rel ∷ [])) → ⊥)) c.in_ok-again.ensures.same
    c.lacks_point.ensures.dead
