use Rattle.std.proofs.Common.{length, sym, ◌∙◌}
use Rattle.std.proofs.lemmas.Bool.{eqb-true}
use Rattle.cert_rules.proofs.NodeLines.{root_last}
use Rattle.split_search.proofs.walk.NodePath.last.Goals as goal

pub returns-then-is_empty : goal.returns-then-is_empty
returns-then-is_empty c = root_last c.args.self.now.path (eqb-true (length c.args.self.now.path) 0 (sym c.is_empty.ensures ∙ c.if-is_empty.true))
