-- A step serves from before what came before it.
use Rattle.std.proofs.Common.{◌≡◌, ℕ, List, Option, Some, None, Result, Ok, Err, ◌≤◌, subst, arith}
use Rattle.std.specs.Prelude.{IfOk}
use Rattle.learn_solver.specs.declared.learner.Learner.{Learner}
use Rattle.learn_solver.specs.declared.solver.Answer.{Answer}
use Rattle.learn_solver.specs.Learners.{solver_state, Serves, burden}
use Rattle.learn_solver.specs.Answers.{IsAnswer}

-- what serves after nothing more was to be done serves from before that
serves-from : (old mid new : Learner) (o : Option Answer) → burden mid ≤ burden old → mid.assumptions.lits ≡ old.assumptions.lits → Serves mid new o → Serves old new o
serves-from old mid new None le same s = omega arith
serves-from old mid new (Some a) le same s = subst (λ (assumptions : List ℕ). IsAnswer (solver_state new) assumptions a) same s

pub result-from : {E : Type 0} (old mid new : Learner) (r : Result (Option Answer) E) → burden mid ≤ burden old → mid.assumptions.lits ≡ old.assumptions.lits → IfOk r (Serves mid new) → IfOk r (Serves old new)
result-from old mid new (Err e) le same s = s
result-from old mid new (Ok o) le same s = serves-from old mid new o le same s
