use Rattle.std.proofs.Common.{inr, ap, ◌∙◌}
use Rattle.cert_tree.specs.Levels.{bare_tree}
use Rattle.cert_check.proofs.claims.Claims.block_at.Goals as goal

pub returns-clause-tree : goal.returns-clause-tree
returns-clause-tree c = record {
  walk = c.new-walk.ensures.walk;
  tree = inr (c.new-walk.ensures.tree ∙ c.root.ensures ∙ ap bare_tree c.in_ok-problem.ensures);
}
