use Rattle.std.proofs.Common.{length, Some, subst, sym, ap, ◌∙◌}
use Rattle.cert_rules.specs.Trees.{same_last}
use Rattle.cert_tree.specs.Walks.{IsPath}
use Rattle.cert_tree.proofs.WalkLemmas.{path_down}
use Rattle.cert_tree.proofs.path.Walk.go_down.Goals as goal

pub returns-clause-walk : goal.returns-clause-walk
returns-clause-walk c =
    let walk = c.args.self.now in
    subst (λ path. IsPath (length walk.tree.levels) walk.tree.from path c.is_there-on_way.result) (sym c.in_ok-push.ensures.ok)
    (path_down (length walk.tree.levels) walk.tree.from walk.path walk.on_way c.is_there-on_way.result c.args.rel c.requires.walk c.requires.short c.requires.shown
    (c.is_there-on_way.ensures ∙ ap (λ first. same_last first (Some c.args.rel)) c.start_below.ensures))
