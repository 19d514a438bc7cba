use Rattle.std.proofs.Common.{◌≡◌, ◌++◌, ◌∷◌, [], true, false, cond, ap, sym, ◌∙◌}
use Rattle.std.specs.Prelude.{filter}
use Rattle.std.specs.List.{range_with_len}
use Rattle.std.proofs.lemmas.List.{append-nil}
use Rattle.constraint_set.specs.Readers.{is_sum_at}
use Rattle.constraint_set.proofs.Gathering.{sum_places_more, is_sum_read}
use Rattle.constraint_set.proofs.shape.sum_indices.Goals.{then-is_sum+in_ok-push, else-is_sum}
use Rattle.constraint_set.proofs.shape.sum_indices.Goals as goal

pub loop-index-preserved : goal.loop-index-preserved
loop-index-preserved c =
    let articulations = c.args.articulations.now in
    let n = c.loop-index.index in
    let before = filter (is_sum_at articulations) (range_with_len 0 n) in
    elim c.if-is_sum.branch [
      | then-is_sum+in_ok-push w ↦
          let sum : is_sum_at articulations n ≡ true = is_sum_read articulations n c.index-articulations-index.result true c.loop-index-test.true c.index-articulations-index.is (sym c.is_sum.ensures ∙ w.if-is_sum.true) in
          ap (λ v. v.items) w.sums-is ∙ w.in_ok-push.ensures.items ∙ ap (λ l. l ++ n ∷ []) c.loop-index.invariant
          ∙ sym (sum_places_more articulations n ∙ ap (λ b. before ++ cond b (n ∷ []) []) sum)
      | else-is_sum w ↦
          let none : is_sum_at articulations n ≡ false = is_sum_read articulations n c.index-articulations-index.result false c.loop-index-test.true c.index-articulations-index.is (sym c.is_sum.ensures ∙ w.if-is_sum.false) in
          ap (λ v. v.items) w.sums-is ∙ c.loop-index.invariant ∙ sym (sum_places_more articulations n ∙ ap (λ b. before ++ cond b (n ∷ []) []) none ∙ append-nil before)
    ]
