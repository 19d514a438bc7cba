use Rattle.std.proofs.Common.{◌≡◌, map, not, take}
use Rattle.conflict_lattice.proofs.seeds.kept_of.Given as goal

abbrev pub invariant-loop-place : goal.invariant-loop-place
invariant-loop-place l = l.kept.items ≡ map not (take l.place l.left_out)
