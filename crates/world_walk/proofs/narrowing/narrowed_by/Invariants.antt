use Rattle.std.proofs.Common.{take}
use Rattle.world_walk.specs.Asked.{IsNarrowedBy}
use Rattle.world_walk.proofs.narrowing.narrowed_by.Given as goal

abbrev pub invariant-loop-pair : goal.invariant-loop-pair
invariant-loop-pair l = IsNarrowedBy l.problem (take l.pair l.path) l.node
