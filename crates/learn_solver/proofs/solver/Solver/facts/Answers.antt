use Rattle.std.proofs.Common.{subst}
use Rattle.learn_solver.specs.Solving.{SolverState, IsSolver}
use Rattle.learn_solver.proofs.Givens.{IsSolver-sound}
use Rattle.learn_solver.proofs.solver.Solver.facts.Goals as goal

pub returns : goal.returns
returns c = subst (λ (s : SolverState). IsSolver s) c.self.view_is (IsSolver-sound c.self.inside.learner c.self.invariant)
