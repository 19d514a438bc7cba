use Rattle.std.proofs.Common.{◌≡◌, take}
use Rattle.std.specs.Prelude.{filter}
use Rattle.world_model.specs.Trial.{is_world_by_trial}
use Rattle.plain_walk.proofs.walk.worlds_of.Given as goal

abbrev pub invariant-loop-node : goal.invariant-loop-node
invariant-loop-node l = l.worlds.items ≡ filter (is_world_by_trial l.problem) (take l.node-index l.nodes)
