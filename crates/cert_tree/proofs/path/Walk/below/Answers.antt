use Rattle.std.proofs.Common.{◌∙◌, ap, length, arith}
use Rattle.cert_rules.specs.Trees.{sets_of}
use Rattle.cert_rules.specs.Order.{onward}
use Rattle.cert_rules.specs.FromTheEnd.{set_at}
use Rattle.cert_tree.specs.Walks.{least_with}
use Rattle.cert_tree.proofs.WalkLemmas.{below_found, below_full}
use Rattle.cert_tree.proofs.path.Walk.below.Goals.{else-branches-via-then-branches+else-depth-depth_count, else-branches-via-else-branches}
use Rattle.cert_tree.proofs.path.Walk.below.Goals as goal

pub returns-then-depth-depth_count-clause-next : goal.returns-then-depth-depth_count-clause-next
returns-then-depth-depth_count-clause-next c =
    below_found c.args.self.now.tree c.args.self.now.path c.args.branches c.least.result c.if-branches.true (omega arith)
    (c.least.ensures ∙ ap (λ set. least_with set c.start_below.result) (c.set_at.ensures ∙ ap (set_at (sets_of c.args.self.now.tree)) c.len-depth.ensures)
    ∙ ap (least_with (set_at (sets_of c.args.self.now.tree) (length c.args.self.now.path))) c.start_below.ensures)

pub returns-else-branches-clause-next : goal.returns-else-branches-clause-next
returns-else-branches-clause-next c = elim c.else-branches.branch [
  | else-branches-via-then-branches+else-depth-depth_count w ↦ below_full c.args.self.now.tree c.args.self.now.path c.args.branches w.if-branches.true (omega arith)
  | else-branches-via-else-branches w ↦ ap (λ b. onward (sets_of c.args.self.now.tree) c.args.self.now.tree.from b c.args.self.now.path) w.if-branches.false
]
