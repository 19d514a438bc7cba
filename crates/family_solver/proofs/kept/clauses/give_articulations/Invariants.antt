use Rattle.family_solver.specs.Kept.Keeping.{IsBegunKept}
use Rattle.family_solver.proofs.kept.clauses.give_articulations.Given as goal

abbrev pub invariant-loop-index : goal.invariant-loop-index
invariant-loop-index l = IsBegunKept l.problem l.ground l.solver
