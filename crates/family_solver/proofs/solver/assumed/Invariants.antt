use Rattle.family_solver.specs.Showing.{AreAssumed}
use Rattle.family_solver.proofs.solver.assumed.Given as goal

abbrev pub invariant-regions : goal.invariant-regions
invariant-regions l = AreAssumed l.problem l.ground l.place l.rel l.lits.items
