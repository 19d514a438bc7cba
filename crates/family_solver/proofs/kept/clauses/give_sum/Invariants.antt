use Rattle.family_solver.specs.Kept.Keeping.{IsBegunKept}
use Rattle.family_solver.proofs.kept.clauses.give_sum.Given as goal

abbrev pub invariant-loop-point : goal.invariant-loop-point
invariant-loop-point l = IsBegunKept l.problem l.ground l.solver
