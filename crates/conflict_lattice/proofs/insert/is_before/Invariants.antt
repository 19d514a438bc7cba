use Rattle.std.proofs.Common.{◌≡◌, drop}
use Rattle.conflict_lattice.proofs.Inserting.{comes}
use Rattle.conflict_lattice.proofs.insert.is_before.Given as goal

-- both begin alike
abbrev pub invariant-loop-place : goal.invariant-loop-place
invariant-loop-place l = comes l.one l.other ≡ comes (drop l.place l.one) (drop l.place l.other)
