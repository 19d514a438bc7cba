use Rattle.std.proofs.Common.{◌≡◌, map, take}
use Rattle.set_family.specs.Rules.{articulation_holds}
use Rattle.conflict_lattice.proofs.grow.held_by.Given as goal

abbrev pub invariant-loop-index : goal.invariant-loop-index
invariant-loop-index l = l.flags.items ≡ map (articulation_holds l.family) (take l.index l.problem.articulations)
