use Rattle.std.proofs.Common.{length, true, subst, sym}
use Rattle.cert_tree.specs.Walks.{IsPath}
use Rattle.cert_tree.proofs.WalkLemmas.{path_at_root}
use Rattle.cert_tree.proofs.path.Walk.new.Goals as goal

pub returns-clause-walk : goal.returns-clause-walk
returns-clause-walk c =
    subst (λ path. IsPath (length c.args.tree.levels) c.args.tree.from path true) (sym c.new.ensures) (path_at_root (length c.args.tree.levels) c.args.tree.from)
