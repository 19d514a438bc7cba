use Rattle.std.proofs.Common.{◌≡◌, ◌+◌, ◌*◌, ◌++◌, ◌∷◌, [], Bool, List, ℕ, false, cond, get_or, ap, sym, ◌∙◌, arith}
use Rattle.std.proofs.lemmas.List.{append-nil}
use Rattle.world_model.specs.Problem.{concept_count}
use Rattle.constraint_set.specs.Readers.{sum_places}
use Rattle.point_encode.specs.Model.Clauses.{first_sum_selector, is_so}
use Rattle.point_encode.proofs.Selecting.{sum_selected, sums_selected, flag_is}
use Rattle.point_encode.proofs.select.add_kept_sums.Goals.{then-is_kept+in_ok-push, else-is_kept}
use Rattle.point_encode.proofs.select.add_kept_sums.Goals as goal

pub loop-sum-preserved : goal.loop-sum-preserved
loop-sum-preserved c =
    let p = c.args.problem.now in
    let k = c.loop-sum.sum in
    let first = first_sum_selector p in
    let place = get_or (sum_places p) k 0 in
    let before = c.loop-sum.lits.items in
    let flag : get_or p.kept place false ≡ c.is_kept.result = flag_is p.kept c.sum_at.result place c.is_kept.result c.is_kept.ensures c.sum_at.ensures.value in
    let added : Bool → List ℕ = λ (b : Bool). before ++ cond b (is_so (first + k) ∷ []) [] in
    let is : c.if-is_kept.lits.items ≡ added (get_or p.kept place false) = elim c.if-is_kept.branch [
      | then-is_kept+in_ok-push w ↦
          ap (λ v. v.items) w.lits-is ∙ w.in_ok-push.ensures.items
          ∙ ap (λ l. before ++ l ∷ []) (w.is_so.ensures ∙ ap (λ n. is_so (n + k)) (c.first_selector-first.ensures.value ∙ ap (λ n. concept_count p + 3 * n) c.pair_count.ensures))
          ∙ sym (ap added (flag ∙ w.if-is_kept.true))
      | else-is_kept w ↦ ap (λ v. v.items) w.lits-is ∙ sym (append-nil before) ∙ sym (ap added (flag ∙ w.if-is_kept.false))
    ] in
    sum_selected p.kept (sum_places p) before c.if-is_kept.lits.items _ first k (omega (arith, c.sum_count-sum-end.ensures.places)) is c.loop-sum.invariant

pub returns : goal.returns
returns c =
    let p = c.args.problem.now in
    sums_selected p.kept (sum_places p) _ _ (first_sum_selector p) c.loop-sum.sum (omega (arith, c.sum_count-sum-end.ensures.places)) c.loop-sum.invariant
