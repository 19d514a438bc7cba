use Rattle.world_model.proofs.PointPositions.{prefix_is_alive, prefix_is_node}
use Rattle.world_model.proofs.point_laws.prefixes_of_the_alive_are_alive.Goals as goal

pub returns : goal.returns
returns c = record { prefixes = prefix_is_alive; nodes = prefix_is_node }
