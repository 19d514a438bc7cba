use Rattle.cert_rules.proofs.FromTheEnd.{found_from_the_end_law}
use Rattle.cert_rules.proofs.laws.found_from_the_end.Goals as goal

pub returns : goal.returns
returns c = found_from_the_end_law
