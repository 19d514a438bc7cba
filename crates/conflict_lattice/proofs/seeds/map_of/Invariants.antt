use Rattle.std.proofs.Common.{take}
use Rattle.conflict_lattice.specs.Rounds.{IsMap, holds_none, is_open}
use Rattle.conflict_lattice.proofs.seeds.map_of.Given as goal

-- the first conflicts are given, and then the first sets
abbrev pub invariant-loop-place : goal.invariant-loop-place
invariant-loop-place l = IsMap l.count (holds_none (take l.place l.conflicts)) l.solver

abbrev pub invariant-loop-place-2 : goal.invariant-loop-place-2
invariant-loop-place-2 l = IsMap l.count (is_open (record { conflicts = l.conflicts; consistent = take l.place l.sets })) l.solver
