use Rattle.std.proofs.Common.{length}
use Rattle.watch_arena.specs.Trails.{AreInRange}
use Rattle.conflict_lattice.proofs.Seeding.{SaysSet}
use Rattle.conflict_lattice.proofs.seeds.clause_of_set.Given as goal

-- what the literals say so far
abbrev pub invariant-loop-place : goal.invariant-loop-place
invariant-loop-place l = record {
  says : SaysSet l.set l.place l.lits.items;
  range : AreInRange l.lits.items (length l.set);
}
