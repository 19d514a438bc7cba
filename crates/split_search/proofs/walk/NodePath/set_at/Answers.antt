use Rattle.std.proofs.Common.{sym, ◌∙◌}
use Rattle.split_search.proofs.Nodes.{depth_set}
use Rattle.split_search.proofs.walk.NodePath.set_at.Goals as goal

pub returns : goal.returns
returns c =
    let w = c.args.self.now in
    c.allowed.ensures ∙ sym (depth_set w.subject w.pairs.items c.args.depth c.index.result.now c.requires.walk.pairs c.requires.within c.index.ensures)
