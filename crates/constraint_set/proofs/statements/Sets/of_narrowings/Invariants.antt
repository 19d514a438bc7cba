use Rattle.std.proofs.Common.{take}
use Rattle.constraint_set.specs.Sets.{AreSets}
use Rattle.constraint_set.proofs.statements.Sets.of_narrowings.Given as goal

-- the sets are what the first narrowings say
abbrev pub invariant-loop-narrowing : goal.invariant-loop-narrowing
invariant-loop-narrowing l = AreSets l.shape (take l.narrowing-index l.narrowings) l.sets
