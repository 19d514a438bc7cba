use Rattle.measure.specs.Solving.{AreByPlace}
use Rattle.measure.proofs.solving.literals_by.Given as goal

abbrev pub invariant-loop-variable : goal.invariant-loop-variable
invariant-loop-variable l = AreByPlace l.variable l.lits.items
