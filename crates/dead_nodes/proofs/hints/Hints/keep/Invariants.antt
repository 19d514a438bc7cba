use Rattle.std.proofs.Common.{◌+◌, ◌-◌, length}
use Rattle.dead_nodes.proofs.hints.Hints.keep.Given as goal

abbrev pub decreases-loop-self : goal.decreases-loop-self
decreases-loop-self l = (l.pair + 1) - length l.self.pairs.items
