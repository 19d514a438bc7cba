use Rattle.std.proofs.Common.{◌≡◌, ◌∙◌, sym, ap, arith}
use Rattle.world_model.specs.Problem.{concept_count, pair_count}
use Rattle.cert_rules.specs.Selected.{is_selected}
use Rattle.cert_rules.specs.Trees.{node_problem}
use Rattle.cert_tree.proofs.NeedLemmas.{selected_region, selected_sum}
use Rattle.cert_tree.proofs.tree.Branching.is_selected.Goals as goal

pub returns-then-variable-first_sum : goal.returns-then-variable-first_sum
returns-then-variable-first_sum c =
    let q = node_problem c.args.self.now c.args.path.now in
    let concepts : concept_count q ≡ c.from-concepts.result = ap (λ t. concept_count t.subject) (sym c.self.view_is) ∙ sym c.concept_count.ensures ∙ sym c.from-concepts.ensures in
    let pairs : pair_count q ≡ c.from.result = ap (λ t. pair_count t.subject) (sym c.self.view_is) ∙ sym c.pair_count.ensures ∙ sym c.from.ensures in
    c.is_emptied.ensures ∙ sym (selected_region q c.from-variable.result c.from-concepts.result c.from.result concepts pairs (omega arith) (omega arith)) ∙ ap (is_selected q) c.from-variable.ensures

pub returns-else-variable-first_sum : goal.returns-else-variable-first_sum
returns-else-variable-first_sum c =
    let q = node_problem c.args.self.now c.args.path.now in
    let concepts : concept_count q ≡ c.from-concepts.result = ap (λ t. concept_count t.subject) (sym c.self.view_is) ∙ sym c.concept_count.ensures ∙ sym c.from-concepts.ensures in
    let pairs : pair_count q ≡ c.from.result = ap (λ t. pair_count t.subject) (sym c.self.view_is) ∙ sym c.pair_count.ensures ∙ sym c.from.ensures in
    c.is_sum_kept.ensures ∙ sym (selected_sum q c.from-variable.result c.from-concepts.result c.from.result concepts pairs (omega arith)) ∙ ap (is_selected q) c.from-variable.ensures
