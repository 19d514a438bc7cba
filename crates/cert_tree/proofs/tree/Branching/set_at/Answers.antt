use Rattle.std.proofs.Common.{sym, ap, ◌∙◌}
use Rattle.cert_rules.specs.Trees.{sets_of}
use Rattle.cert_rules.specs.FromTheEnd.{set_at}
use Rattle.cert_tree.proofs.TreeLemmas.{depth_within, level_within, level_set}
use Rattle.cert_tree.proofs.tree.Branching.set_at.Goals as goal

pub allowed-requires : goal.allowed-requires
allowed-requires c =
    level_within c.self.inside.subject c.self.inside.levels.list.items c.self.inside.levels.depths.items c.args.depth c.index.result.now c.self.invariant
    (depth_within c.self.inside.subject c.self.inside.levels.list.items c.self.inside.from c.args.self.now c.args.depth c.self.view_is c.requires) c.index.ensures

pub returns : goal.returns
returns c =
    c.allowed.ensures
    ∙ sym (level_set c.self.inside.subject c.self.inside.levels.list.items c.self.inside.from c.args.depth c.index.result.now
    (depth_within c.self.inside.subject c.self.inside.levels.list.items c.self.inside.from c.args.self.now c.args.depth c.self.view_is c.requires) c.index.ensures)
    ∙ ap (λ t. set_at (sets_of t) c.args.depth) c.self.view_is
