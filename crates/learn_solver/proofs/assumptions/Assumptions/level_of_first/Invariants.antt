use Rattle.std.proofs.Common.{◌≤◌}
use Rattle.learn_solver.proofs.assumptions.Assumptions.level_of_first.Given as goal

abbrev pub invariant-loop-level : goal.invariant-loop-level
invariant-loop-level l = record { within : l.level ≤ l.self.guided }

abbrev pub decreases-loop-level : goal.decreases-loop-level
decreases-loop-level l = l.level
