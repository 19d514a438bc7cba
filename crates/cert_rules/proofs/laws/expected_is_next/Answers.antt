use Rattle.cert_rules.proofs.NextNodes.{expected_is_next_law}
use Rattle.cert_rules.proofs.laws.expected_is_next.Goals as goal

pub returns : goal.returns
returns c = expected_is_next_law
