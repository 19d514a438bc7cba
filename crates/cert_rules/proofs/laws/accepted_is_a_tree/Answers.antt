use Rattle.cert_rules.proofs.ListingShape.{accepted_is_a_tree_law}
use Rattle.cert_rules.proofs.laws.accepted_is_a_tree.Goals as goal

pub returns : goal.returns
returns c = accepted_is_a_tree_law
