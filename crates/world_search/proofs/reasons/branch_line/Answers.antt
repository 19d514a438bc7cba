use Rattle.cert_rules.proofs.NodeLines.{named}
use Rattle.world_search.proofs.reasons.branch_line.Goals as goal

pub returns-clause-tells : goal.returns-clause-tells
returns-clause-tells c = λ state. (named c.args.node.now c.depth_of.result c.last_rel.result c.depth_of.ensures c.last_rel.ensures, c.requires)
