use Rattle.std.proofs.Common.{◌≡◌, ◌∙◌, sym, ap, arith}
use Rattle.rcc5_core.specs.RelationSet.{is_empty_set}
use Rattle.world_model.specs.Problem.{pair_count}
use Rattle.cert_rules.specs.Trees.{node_problem}
use Rattle.cert_tree.proofs.NeedLemmas.{pair_nothing, pair_something, pair_past}
use Rattle.cert_tree.proofs.tree.Branching.pair_fault.Goals.{else-pair-pair_count-via-then-pair-pair_count+else-is_empty, else-pair-pair_count-via-else-pair-pair_count}
use Rattle.cert_tree.proofs.tree.Branching.pair_fault.Goals as goal

pub returns-then-is_empty : goal.returns-then-is_empty
returns-then-is_empty c =
    let q = node_problem c.args.self.now c.args.path.now in
    let pairs : pair_count q ≡ c.pair_count.result = ap (λ t. pair_count t.subject) (sym c.self.view_is) ∙ sym c.pair_count.ensures in
    sym (pair_nothing q c.args.pair (omega (arith, pairs)) (ap is_empty_set (sym c.allowed_at.ensures) ∙ sym c.is_empty.ensures ∙ c.if-is_empty.true))

pub returns-else-pair-pair_count : goal.returns-else-pair-pair_count
returns-else-pair-pair_count c =
    let q = node_problem c.args.self.now c.args.path.now in
    let pairs : pair_count q ≡ c.pair_count.result = ap (λ t. pair_count t.subject) (sym c.self.view_is) ∙ sym c.pair_count.ensures in
    elim c.else-pair-pair_count.branch [
      | else-pair-pair_count-via-then-pair-pair_count+else-is_empty w ↦
          sym (pair_something q c.args.pair (omega (arith, pairs)) (ap is_empty_set (sym w.allowed_at.ensures) ∙ sym w.is_empty.ensures ∙ w.if-is_empty.false))
      | else-pair-pair_count-via-else-pair-pair_count w ↦ sym (pair_past q c.args.pair (omega (arith, pairs)))
    ]
