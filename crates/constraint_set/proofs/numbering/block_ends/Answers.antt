use Rattle.std.proofs.Common.{◌≡◌, ◌+◌, ◌<◌, ◌∷◌, ◌++◌, [], ◌∙◌, ℕ, List, length, get_or, ap, sym, subst, arith, inl, inr}
use Rattle.std.proofs.lemmas.Bool.{cases_lt}
use Rattle.std.proofs.lemmas.List.{get_or_append_left, get_or_push, length-append}
use Rattle.constraint_set.specs.Numbers.{IsBlockEnd}
use Rattle.constraint_set.proofs.numbering.block_ends.Goals as goal

-- the ends of the concepts so far, and one more
ends_push : (owners ends : List ℕ) (n e : ℕ) → length ends ≡ n → ((c : ℕ) → c < n → IsBlockEnd owners c (get_or ends c 0)) → IsBlockEnd owners n e →
    (c : ℕ) → c < n + 1 → IsBlockEnd owners c (get_or (ends ++ e ∷ []) c 0)
ends_push owners ends n e counted before here c small = elim (cases_lt c n) [
  | inl less ↦ subst (IsBlockEnd owners c) (sym (get_or_append_left ends (e ∷ []) 0 c (omega (arith, counted)))) (before c less)
  | inr past ↦
      let same : c ≡ n = omega arith in
      subst (λ m. IsBlockEnd owners m (get_or (ends ++ e ∷ []) m 0)) (sym same) (subst (IsBlockEnd owners n) (sym (get_or_push ends e 0 n counted)) here)
]

pub loop-concept-preserved : goal.loop-concept-preserved
loop-concept-preserved c =
    let before = c.loop-concept.invariant in
    let items = c.in_ok-push.ensures.items in
    record {
      counted = ap length items ∙ length-append c.loop-concept.ends.items (c.block_end.result ∷ []) ∙ ap (λ n. n + 1) before.counted;
      each = λ k small. subst (λ ends. IsBlockEnd c.args.owners.now k (get_or ends k 0)) (sym items)
          (ends_push c.args.owners.now c.loop-concept.ends.items c.loop-concept.concept c.block_end.result before.counted before.each c.block_end.ensures k small);
    }
