use Rattle.std.proofs.Common.{◌∙◌, ap, true}
use Rattle.cert_tree.specs.Levels.{tree_over}
use Rattle.cert_tree.proofs.LevelLemmas.{tree_over_all}
use Rattle.cert_check.proofs.listing.Listing.new.Goals as goal

pub returns-clause-tree : goal.returns-clause-tree
returns-clause-tree c =
    c.new-2.ensures.tree ∙ c.in_ok-tree.ensures ∙ ap (λ p. tree_over p true c.args.from) c.in_ok-copy.ensures ∙ tree_over_all c.args.problem.now c.args.from
