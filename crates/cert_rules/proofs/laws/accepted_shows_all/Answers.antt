use Rattle.cert_rules.proofs.Showing.{accepted_shows_all_law}
use Rattle.cert_rules.proofs.laws.accepted_shows_all.Goals as goal

pub returns : goal.returns
returns g c = accepted_shows_all_law
