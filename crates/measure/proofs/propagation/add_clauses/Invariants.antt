use Rattle.std.proofs.Common.{◌≡◌}
use Rattle.measure.proofs.propagation.add_clauses.Given as goal

abbrev pub invariant-loop-id : goal.invariant-loop-id
invariant-loop-id l = l.trail.variables ≡ l.fn.trail.variables
