use Rattle.std.proofs.Common.{◌<◌}
use Rattle.measure.proofs.propagation.follow_chain.Given as goal

abbrev pub invariant-loop : goal.invariant-loop
invariant-loop l = 0 < l.trail.variables
