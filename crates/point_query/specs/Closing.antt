-- Needs of a pool that clauses close.
use Rattle.std.specs.Prelude.{ℕ, ◌+◌, ◌<◌, Option, MatchOption, IsTrue, [], ◌∷◌, ◌++◌}
use Rattle.rcc5_core.specs.declared.Rel.{Rel}
use Rattle.point_pool.specs.Cursors.{CursorState}
use Rattle.world_model.specs.Problem.{Problem}
use Rattle.world_model.specs.Alive.{problem_at, HasPoint}
use Rattle.constraint_set.specs.Shape.{SameShape}
use Rattle.point_pool.specs.declared.pool.Pool.{Pool}
use Rattle.learn_solver.specs.Solving.{SolverState}
use Rattle.point_query.specs.Answers.{IsClosed}
use Rattle.point_encode.specs.Numbers.{is_needed}
use Rattle.point_encode.specs.Model.Forced.{need_count, need_at}
use Rattle.point_pool.specs.Pools.{IsPool, IsPoolBut}
use Rattle.point_query.specs.Queries.{IsSolverOf, asker_with}

-- a clause closes a need of the prefix
abbrev pub IsClosedNow : Pool → SolverState → ℕ → ℕ → Type 0
IsClosedNow w s number id = IsClosed (asker_with w.cursor.problem s) w.cursor.problem w.cursor.path (need_at w.cursor.problem number) id

-- all needs but this one wait or are served, and a clause closes it
pub record IsStuck (w : Pool) (s : SolverState) (number id : ℕ) : Type 0 where
  pub within : number < need_count w.cursor.problem
  pub needed : IsTrue (is_needed (problem_at w.cursor.problem w.cursor.path) number)
  pub others : IsPoolBut w number (number + 1)
  pub closed : IsClosedNow w s number id

-- a clause closes a need, and each need before it has a point
pub record IsFirstStuck (w : Pool) (s : SolverState) (number id : ℕ) : Type 0 where
  pub within : number < need_count w.cursor.problem
  pub needed : IsTrue (is_needed (problem_at w.cursor.problem w.cursor.path) number)
  pub closed : IsClosedNow w s number id
  pub earlier : (other : ℕ) → other < number → IsTrue (is_needed (problem_at w.cursor.problem w.cursor.path) other) → HasPoint (problem_at w.cursor.problem w.cursor.path) (need_at w.cursor.problem other)

-- where a relation is added, a number is that of no need, or its need has a point
abbrev pub IsKeptAfter : CursorState → Rel → ℕ → Type 0
IsKeptAfter s rel number =
    number < need_count s.problem → IsTrue (is_needed (problem_at s.problem (s.path ++ rel ∷ [])) number) → HasPoint (problem_at s.problem (s.path ++ rel ∷ [])) (need_at s.problem number)

-- what an asker keeps: the solver of its shape, and perhaps a pool at a problem of this shape
pub record IsKeptAsker (shape : Problem) (solver : SolverState) (pool : Option Pool) : Type 0 where
  pub solved : IsSolverOf shape solver
  pub walked : MatchOption pool (Unit {0}) (λ w. IsPool w × SameShape w.cursor.problem shape)
