use Rattle.std.proofs.Common.{ap, ◌∙◌, arith}
use Rattle.rcc5_core.specs.RelationSet.{first_of}
use Rattle.cert_rules.specs.Trees.{sets_of}
use Rattle.cert_rules.specs.FromTheEnd.{set_at}
use Rattle.split_search.specs.Walking.{split_tree, next_node}
use Rattle.split_search.proofs.Nodes.{below_found, below_full}
use Rattle.split_search.proofs.walk.NodePath.below.Goals.{else-branches-via-then-branches+else-len, else-branches-via-else-branches}
use Rattle.split_search.proofs.walk.NodePath.below.Goals as goal

pub returns-then-len-clause-next : goal.returns-then-len-clause-next
returns-then-len-clause-next c =
    let w = c.args.self.now in
    below_found w.subject w.pairs.items w.path c.args.branches c.first.result c.requires.pairs c.if-branches.true (omega arith)
    (c.first.ensures ∙ ap first_of (c.set_at.ensures ∙ ap (set_at (sets_of (split_tree w.subject))) c.len-then-len.ensures))

pub returns-else-branches-clause-next : goal.returns-else-branches-clause-next
returns-else-branches-clause-next c =
    let w = c.args.self.now in
    elim c.else-branches.branch [
      | else-branches-via-then-branches+else-len f ↦ below_full w.subject w.pairs.items w.path c.args.branches c.requires.pairs f.if-branches.true (omega arith)
      | else-branches-via-else-branches f ↦ ap (λ b. next_node w.subject b w.path) f.if-branches.false
    ]
