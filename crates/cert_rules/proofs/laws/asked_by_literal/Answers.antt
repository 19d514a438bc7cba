use Rattle.cert_rules.proofs.Selected.{asked_by_literal_law}
use Rattle.cert_rules.proofs.laws.asked_by_literal.Goals as goal

pub returns : goal.returns
returns c = asked_by_literal_law
