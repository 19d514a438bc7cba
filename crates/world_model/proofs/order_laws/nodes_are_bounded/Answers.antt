use Rattle.world_model.proofs.OrderNodes.{nodes_are_bounded_law}
use Rattle.world_model.proofs.order_laws.nodes_are_bounded.Goals as goal

pub returns : goal.returns
returns c = nodes_are_bounded_law
