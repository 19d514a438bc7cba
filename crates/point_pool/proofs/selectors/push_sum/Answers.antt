use Rattle.std.proofs.Common.{◌≡◌, ℕ, Bool, ◌+◌, ◌*◌, ◌≤◌, ◌++◌, [], ◌∷◌, ◌∙◌, ap, sym, length, cond, true, false, append-nil, get_or, arith}
use Rattle.std.specs.Prelude.{slice_index, slice_get, Some}
use Rattle.std.proofs.lemmas.Option.{get_or_from_slice_get}
use Rattle.constraint_set.specs.Readers.{sum_places, is_sum_at}
use Rattle.constraint_set.proofs.Lists.{few_filtered}
use Rattle.world_model.specs.Problem.{Problem, concept_count}
use Rattle.constraint_set.specs.Facts.{IsBuilt}
use Rattle.point_encode.specs.Model.Clauses.{is_so, first_sum_selector}
use Rattle.point_pool.specs.Cursors.{kept_selector}
use Rattle.point_pool.proofs.selectors.push_sum.Goals as goal

few_sums : (p : Problem) → IsBuilt p → length (sum_places p) ≤ 4096
few_sums p built = let few = few_filtered (is_sum_at p.articulations) (length p.articulations) in omega (arith, few, built.few)

pub overflow_add-concept_count-then-is_kept : goal.overflow_add-concept_count-then-is_kept
overflow_add-concept_count-then-is_kept c =
    omega (arith, few_sums c.args.problem.now c.facts.ensures.built, c.count_pairs-few.ensures.pairs, c.count_pairs-few.ensures.concepts, c.concept_count.ensures)

pub new-requires : goal.new-requires
new-requires c =
    omega (arith, few_sums c.args.problem.now c.facts.ensures.built, c.count_pairs-few.ensures.pairs, c.count_pairs-few.ensures.concepts, c.concept_count.ensures)

-- the selector of a sum whose flag is known
selector_is : (p : Problem) (sum place : ℕ) (flag : Bool) → place ≡ slice_index (sum_places p) sum → slice_get p.kept place ≡ Some flag →
    kept_selector p sum ≡ cond flag (is_so (first_sum_selector p + sum) ∷ []) []
selector_is p sum place flag at got =
    ap (λ b. cond b (is_so (first_sum_selector p + sum) ∷ []) []) (ap (λ k. get_or p.kept k false) (sym at) ∙ get_or_from_slice_get p.kept place flag false got)

pub returns-in_ok-push : goal.returns-in_ok-push
returns-in_ok-push c =
    let p = c.args.problem.now in
    let lit : c.new.result ≡ is_so (first_sum_selector p + c.args.sum) =
    c.new.ensures ∙ ap is_so (ap (λ n. n + 3 * c.count_pairs-few.result + c.args.sum) c.concept_count.ensures ∙ ap (λ k. concept_count p + 3 * k + c.args.sum) c.count_pairs-few.ensures.count) in
    c.in_ok-push.ensures.items ∙ ap (λ l. c.args.lits.now.items ++ l ∷ []) lit ∙
    ap (λ ls. c.args.lits.now.items ++ ls) (sym (selector_is p c.args.sum c.sum_at.result true c.sum_at.ensures.value c.if-is_kept.ensures))

pub returns-else-is_kept : goal.returns-else-is_kept
returns-else-is_kept c =
    sym (ap (λ ls. c.args.lits.now.items ++ ls) (selector_is c.args.problem.now c.args.sum c.sum_at.result false c.sum_at.ensures.value c.if-is_kept.ensures) ∙ append-nil c.args.lits.now.items)
