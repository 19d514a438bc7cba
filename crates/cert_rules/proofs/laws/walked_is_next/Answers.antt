use Rattle.cert_rules.proofs.OnTheWay.{walked_is_next_law}
use Rattle.cert_rules.proofs.laws.walked_is_next.Goals as goal

pub returns : goal.returns
returns c = walked_is_next_law
