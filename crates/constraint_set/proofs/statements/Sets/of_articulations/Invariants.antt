use Rattle.std.proofs.Common.{take}
use Rattle.constraint_set.specs.Sets.{AreSets, kept_statements}
use Rattle.constraint_set.proofs.statements.Sets.of_articulations.Given as goal

-- the sets are what the first articulations say
abbrev pub invariant-loop-index : goal.invariant-loop-index
invariant-loop-index l = AreSets l.shape (kept_statements (take l.index l.kept) (take l.index l.shape.articulations)) l.sets
