use Rattle.cert_rules.proofs.Told.{told_stays_up_law}
use Rattle.cert_rules.proofs.laws.told_stays_up.Goals as goal

pub returns : goal.returns
returns c = told_stays_up_law
