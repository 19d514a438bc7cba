use Rattle.std.proofs.Common.{◌≡◌}
use Rattle.learn_solver.proofs.learner.Learner.unassign_above.Given as goal

abbrev pub invariant-loop-place : goal.invariant-loop-place
invariant-loop-place l = l.self ≡ l.fn.self
