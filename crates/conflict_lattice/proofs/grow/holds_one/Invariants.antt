use Rattle.std.proofs.Common.{◌≡◌, drop}
use Rattle.conflict_lattice.specs.Rounds.{holds_one}
use Rattle.conflict_lattice.proofs.grow.holds_one.Given as goal

-- none of the first conflicts is held
abbrev pub invariant-loop-conflict : goal.invariant-loop-conflict
invariant-loop-conflict l = holds_one l.conflicts l.kept ≡ holds_one (drop l.conflict-index l.conflicts) l.kept
