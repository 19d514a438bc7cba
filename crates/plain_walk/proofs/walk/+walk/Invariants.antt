use Rattle.std.proofs.Common.{◌≡◌, ◌++◌, ◌-◌, take}
use Rattle.std.specs.Prelude.{flat_map}
use Rattle.world_model.specs.Trial.{nodes_below}
use Rattle.plain_walk.proofs.walk.+walk.Given as goal

abbrev pub decreases-walk : goal.decreases-walk
decreases-walk l = l.left

abbrev pub invariant-loop-node : goal.invariant-loop-node
invariant-loop-node l = l.nodes.items ≡ l.initial.nodes.items ++ flat_map (nodes_below l.problem (l.left - 1)) (take l.node-index l.node-items)
