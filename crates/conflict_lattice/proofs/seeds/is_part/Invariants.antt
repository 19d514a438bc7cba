use Rattle.std.proofs.Common.{◌≡◌, true, take}
use Rattle.conflict_lattice.specs.Rounds.{is_part}
use Rattle.conflict_lattice.proofs.seeds.is_part.Given as goal

-- the first flags are
abbrev pub invariant-loop-place : goal.invariant-loop-place
invariant-loop-place l = is_part (take l.place l.few) l.more ≡ true
