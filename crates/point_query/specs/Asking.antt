-- What an asker is seen as, and what each of its calls leaves.
use Rattle.std.specs.Prelude.{◌≡◌, []}
use Rattle.lits_core.specs.Derivation.{first_state, SameGiven, SameState}
use Rattle.world_model.specs.Problem.{Problem}
use Rattle.constraint_set.specs.Shape.{shape_of}
use Rattle.point_encode.specs.Model.Clauses.{given_clauses, variable_count}
use Rattle.learn_solver.specs.Solving.{SolverState, GoesTo, IsSolver}

-- the shape of the problems that it may be asked about, and its solver
pub record AskerState : Type 0 where
  pub shape : Problem
  pub solver : SolverState

-- a new asker: the shape of its problem, the first state over the given clauses, and no line waits
pub record IsNewAsker (p : Problem) (asker : AskerState) : Type 0 where
  pub shape : asker.shape ≡ shape_of p
  pub variables : asker.solver.variables ≡ variable_count p
  pub first : SameState (first_state (given_clauses p)) asker.solver.state
  pub none_waits : asker.solver.waiting ≡ []
  pub none_idle : asker.solver.idle ≡ []

-- each call leaves the shape, and adds lines by the solver's rule
pub record AskerGoes (old new : AskerState) : Type 0 where
  pub shape : new.shape ≡ old.shape
  pub solver : GoesTo old.solver new.solver

-- what is so of an asker at any time
pub record IsAsker (asker : AskerState) : Type 0 where
  pub variables : asker.solver.variables ≡ variable_count asker.shape
  pub given : SameGiven (given_clauses asker.shape) asker.solver.state.given
  pub solver : IsSolver asker.solver
