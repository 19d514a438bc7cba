use Rattle.std.proofs.Common.{◌∙◌, sym}
use Rattle.point_encode.specs.Needs.{need_seen}
use Rattle.cert_rules.specs.Trees.{node_problem}
use Rattle.cert_tree.proofs.tree.Branching.is_closed.Goals as goal

pub returns : goal.returns
returns c =
    c.are_asked.ensures
    ∙ sym (c.asked_by_literal.ensures.clause (node_problem c.args.self.now c.args.path.now) (need_seen c.args.self.now.subject c.args.need) c.args.lits.now)
