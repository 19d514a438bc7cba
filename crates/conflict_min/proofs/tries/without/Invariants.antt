use Rattle.std.proofs.Common.{◌≡◌}
use Rattle.conflict_min.specs.Shrinking.{cut}
use Rattle.conflict_min.proofs.tries.without.Given as goal

-- so many are taken off so far
abbrev pub invariant-flags : goal.invariant-flags
invariant-flags l = l.tried.items ≡ cut l.kept l.place l.nth
