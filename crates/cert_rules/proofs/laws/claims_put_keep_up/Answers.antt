use Rattle.cert_rules.proofs.ClaimWriting.{claims_put_keep_up_law}
use Rattle.cert_rules.proofs.laws.claims_put_keep_up.Goals as goal

pub returns : goal.returns
returns c = claims_put_keep_up_law
