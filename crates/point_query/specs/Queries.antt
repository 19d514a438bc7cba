-- What a query is asked with.
use Rattle.std.specs.Prelude.{◌≡◌, Bool, List, All, IsTrue, [], ◌∷◌, ◌++◌, ◌↔◌}
use Rattle.rcc5_core.specs.RelationSet.{has}
use Rattle.rcc5_core.specs.declared.Rel.{Rel}
use Rattle.rcc5_core.specs.declared.RelSet.{RelSet}
use Rattle.lits_core.specs.Derivation.{SameGiven}
use Rattle.world_model.specs.Problem.{Problem}
use Rattle.world_model.specs.Alive.{IsAlive, is_point, problem_at}
use Rattle.constraint_set.specs.Shape.{shape_of}
use Rattle.point_encode.specs.Model.Clauses.{given_clauses, variable_count}
use Rattle.learn_solver.specs.Solving.{SolverState, GoesTo}
use Rattle.point_query.specs.Asking.{AskerState}

-- a solver has the variables and the given clauses of a problem
pub record IsSolverOf (p : Problem) (s : SolverState) : Type 0 where
  pub variables : s.variables ≡ variable_count p
  pub given : SameGiven (given_clauses p) s.state.given

-- a solver went on, and is still one of a problem
pub record KeepsSolver (p : Problem) (old new : SolverState) : Type 0 where
  pub goes : GoesTo old new
  pub solver : IsSolverOf p new

-- an asker with this solver
abbrev pub asker_with : Problem → SolverState → AskerState
asker_with p s = record { shape = shape_of p; solver = s }

-- lists of bits are points of a problem
abbrev pub ArePoints : Problem → List (List Bool) → Type 0
ArePoints p points = All (λ bits. IsTrue (is_point p bits)) points

-- a set has exactly the relations that lead on from a prefix to an alive one
abbrev pub AreLeading : Problem → List Rel → RelSet → Type 0
AreLeading p m set = (rel : Rel) → IsTrue (has set rel) ↔ IsAlive (problem_at p (m ++ rel ∷ []))

-- each relation of a set leads on from a prefix to an alive one
abbrev pub AllLeadOn : Problem → List Rel → RelSet → Type 0
AllLeadOn p m set = (rel : Rel) → IsTrue (has set rel) → IsAlive (problem_at p (m ++ rel ∷ []))
