use Rattle.world_model.proofs.OrderListings.{one_listing_law}
use Rattle.world_model.proofs.order_laws.one_listing.Goals as goal

pub returns : goal.returns
returns c = one_listing_law
