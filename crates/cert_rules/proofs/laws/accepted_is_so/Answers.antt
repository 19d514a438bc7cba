use Rattle.cert_rules.proofs.Whole.{verdict_law}
use Rattle.cert_rules.proofs.laws.accepted_is_so.Goals as goal

pub returns : goal.returns
returns g c = verdict_law
