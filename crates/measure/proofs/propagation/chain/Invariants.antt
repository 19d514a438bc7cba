use Rattle.std.proofs.Common.{◌≡◌}
use Rattle.measure.proofs.propagation.chain.Given as goal

abbrev pub invariant-loop-variable : goal.invariant-loop-variable
invariant-loop-variable l = l.trail.variables ≡ l.variables
