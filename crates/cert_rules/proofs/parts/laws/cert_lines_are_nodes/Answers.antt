use Rattle.cert_rules.proofs.parts.CertNodes.{cert_lines_law}
use Rattle.cert_rules.proofs.parts.laws.cert_lines_are_nodes.Goals as goal

pub returns : goal.returns
returns c = cert_lines_law c.lines_are_nodes.ensures
