use Rattle.cert_rules.proofs.Whole.{listing_law}
use Rattle.cert_rules.proofs.laws.accepted_is_the_listing.Goals as goal

pub returns : goal.returns
returns c = listing_law
