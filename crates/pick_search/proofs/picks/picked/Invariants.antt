use Rattle.std.proofs.Common.{take}
use Rattle.pick_search.specs.Picking.{IsPicked}
use Rattle.pick_search.proofs.picks.picked.Given as goal

abbrev pub invariant-loop-pick : goal.invariant-loop-pick
invariant-loop-pick l = IsPicked l.problem l.pairs (take l.pick-index l.picks) l.node
