use Rattle.family_solver.specs.Kept.Keeping.{AreAssumed}
use Rattle.family_solver.proofs.kept.flags.assumed.Given as goal

abbrev pub invariant-loop-place : goal.invariant-loop-place
invariant-loop-place l = AreAssumed l.ground l.kept l.lits.items
