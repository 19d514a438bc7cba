use Rattle.family_solver.specs.Showing.{AreAssumed}
use Rattle.family_solver.proofs.solver.push_all_barred.Given as goal

abbrev pub invariant-loop-point : goal.invariant-loop-point
invariant-loop-point l = AreAssumed l.problem l.ground l.place l.rel l.lits.items
