use Rattle.point_ladder.specs.Alone.{AreAliveAlone}
use Rattle.point_ladder.proofs.alone.alive_alone.Given as goal

-- there is a set for each pair so far
abbrev pub invariant-loop-pair : goal.invariant-loop-pair
invariant-loop-pair l = AreAliveAlone l.problem l.pair l.sets.items
