use Rattle.cert_rules.proofs.ClaimShape.{accepted_claims_have_trees_law}
use Rattle.cert_rules.proofs.laws.accepted_claims_have_trees.Goals as goal

pub returns : goal.returns
returns c = accepted_claims_have_trees_law
