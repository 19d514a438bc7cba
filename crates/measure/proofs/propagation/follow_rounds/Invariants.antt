use Rattle.std.proofs.Common.{◌≡◌}
use Rattle.measure.proofs.propagation.follow_rounds.Given as goal

abbrev pub invariant-loop : goal.invariant-loop
invariant-loop l = l.trail.variables ≡ l.fn.trail.variables
