use Rattle.point_ladder.proofs.Decided.{AreWaiting}
use Rattle.point_ladder.proofs.start.nexts_of.Given as goal

abbrev pub invariant-loop-pair : goal.invariant-loop-pair
invariant-loop-pair l = AreWaiting l.sets l.line l.nexts.items l.pair
