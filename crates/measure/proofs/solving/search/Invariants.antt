use Rattle.std.proofs.Common.{◌≡◌}
use Rattle.measure.proofs.solving.search.Given as goal

abbrev pub invariant-loop-number : goal.invariant-loop-number
invariant-loop-number l = l.solver.variables ≡ l.fn.solver.variables
