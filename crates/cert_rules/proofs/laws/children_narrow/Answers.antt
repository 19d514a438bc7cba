use Rattle.cert_rules.proofs.NodeProblems.{children_narrow_law}
use Rattle.cert_rules.proofs.laws.children_narrow.Goals as goal

pub returns : goal.returns
returns c = children_narrow_law
