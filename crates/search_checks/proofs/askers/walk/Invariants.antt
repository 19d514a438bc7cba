use Rattle.std.proofs.Common.{◌≡◌}
use Rattle.search_checks.proofs.askers.walk.Given as goal

abbrev pub invariant-loop : goal.invariant-loop
invariant-loop l = l.asker.shape ≡ l.fn.asker.shape
