use Rattle.std.proofs.Common.{◌≡◌, ◌∙◌, ℕ, ◌+◌, ◌*◌, true, [], ◌∷◌, ◌++◌, sym, arith}
use Rattle.std.specs.Prelude.{Contains}
use Rattle.std.proofs.lemmas.Bool.{true≢false}
use Rattle.std.proofs.lemmas.List.Elements.{Contains-append_left, Contains-push}
use Rattle.bit_rows.specs.Rows.{word_bit, has_bit}
use Rattle.point_table.proofs.places.Clearing.{more_below, one_word}
use Rattle.point_table.proofs.places.places.push_places.Goals as goal
use Rattle.point_table.proofs.places.places.push_places.Goals.{then-has_bit+in_ok-push, else-has_bit}

pub overflow_mul-at : goal.overflow_mul-at
overflow_mul-at c =
    let bit : word_bit c.args.word c.loop-j.j ≡ true = sym (one_word c.args.word c.loop-j.j (omega (arith, c.loop-j-test.true))) ∙ sym c.has_bit.ensures ∙ c.if-has_bit.true in
    omega (arith, c.requires c.loop-j.j (omega (arith, c.loop-j-test.true)) bit)

pub overflow_add-at : goal.overflow_add-at
overflow_add-at c =
    let bit : word_bit c.args.word c.loop-j.j ≡ true = sym (one_word c.args.word c.loop-j.j (omega (arith, c.loop-j-test.true))) ∙ sym c.has_bit.ensures ∙ c.if-has_bit.true in
    omega (arith, c.requires c.loop-j.j (omega (arith, c.loop-j-test.true)) bit)

pub loop-j-preserved : goal.loop-j-preserved
loop-j-preserved c =
    let at = c.args.at in
    let word = c.args.word in
    let j = c.loop-j.j in
    let old = c.loop-j.list.items in
    let tells : has_bit (word ∷ []) j ≡ word_bit word j = one_word word j (omega (arith, c.loop-j-test.true)) in
    elim c.if-has_bit.branch [
      | then-has_bit+in_ok-push w ↦
          let items = w.in_ok-push.ensures.items in
          let grows : (k : ℕ) → Contains old k → Contains (old ++ (64 * at + j) ∷ []) k = λ k h. Contains-append_left old ((64 * at + j) ∷ []) k h in
          rw (w.list-is, items) (record {
            there = more_below (λ k. word_bit word k ≡ true → Contains (old ++ (64 * at + j) ∷ []) (64 * at + k)) j (λ k small bit. grows (64 * at + k) (c.loop-j.invariant.there k small bit)) (λ bit. Contains-push old (64 * at + j));
            stay = λ place h. grows place (c.loop-j.invariant.stay place h);
          })
      | else-has_bit w ↦
          rw (w.list-is) (record {
            there = more_below (λ k. word_bit word k ≡ true → Contains old (64 * at + k)) j c.loop-j.invariant.there (λ bit. absurd (true≢false (sym bit ∙ sym tells ∙ sym c.has_bit.ensures ∙ w.if-has_bit.false)));
            stay = c.loop-j.invariant.stay;
          })
    ]
