use Rattle.std.proofs.Common.{◌≡◌, length}
use Rattle.point_ladder.proofs.start.first_line.Given as goal

abbrev pub invariant-loop-set : goal.invariant-loop-set
invariant-loop-set l = length l.line.items ≡ l.set-index
