use Rattle.std.proofs.Common.{◌≡◌, ◌++◌}
use Rattle.learn_solver.specs.Weights.{weight}
use Rattle.learn_solver.specs.Solving.{GoesTo}
use Rattle.learn_solver.specs.Learners.{solver_state, IsLearner}
use Rattle.learn_solver.proofs.learner.Learner.solve.Given as goal

abbrev pub invariant-loop-answer : goal.invariant-loop-answer
invariant-loop-answer l = record {
  sound : IsLearner l.self;
  goes : GoesTo (solver_state l.fn.self) (solver_state l.self);
  assumptions : l.self.assumptions.lits ≡ l.assumptions ++ l.more;
}

abbrev pub decreases-loop-answer : goal.decreases-loop-answer
decreases-loop-answer l = weight l.self.trail.variables l.self.trail.places
