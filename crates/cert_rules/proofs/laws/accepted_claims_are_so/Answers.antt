use Rattle.cert_rules.proofs.Whole.{claims_law}
use Rattle.cert_rules.proofs.laws.accepted_claims_are_so.Goals as goal

pub returns : goal.returns
returns c = claims_law
