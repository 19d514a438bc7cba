use Rattle.world_model.proofs.OrderListings.{listings_join_law}
use Rattle.world_model.proofs.order_laws.listings_join.Goals as goal

pub returns : goal.returns
returns c = listings_join_law
