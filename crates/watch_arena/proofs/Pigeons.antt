-- Numbers below a bound that are all different are no more than the bound.
use Rattle.std.proofs.Common.{◌≡◌, ◌≢◌, ◌∙◌, ◌⊎◌, ℕ, zero, suc, ◌<◌, ◌≤◌, Bool, true, false, cond, eqb, sym, ap, arith, inl, inr}
use Rattle.std.proofs.lemmas.Grind.{common_steps}
use Rattle.std.proofs.lemmas.Bool.{cases_eq, cases_lt}

-- some number below a count is taken to m, or none is
found : (f : ℕ → ℕ) (m count : ℕ) → ((p : ℕ) × (p < count) × (f p ≡ m)) ⊎ ((p : ℕ) → p < count → f p ≢ m)
found f m zero = inr (λ p lt. absurd (omega arith))
found f m (suc count) =
    elim (found f m count) [
      | inl (p, lt, is) ↦ inl (p, omega arith, is)
      | inr none ↦ elim (cases_eq (f count) m) [
        | inl e ↦ inl (count, omega arith, e)
        | inr ne ↦ inr (λ p lt. elim (cases_lt p count) [
          | inl below ↦ none p below
          | inr late ↦ λ e. let same : p ≡ count = omega arith in ne (ap f (sym same) ∙ e)
        ])
      ]
    ]

-- f with the value at `last` put at p in place of that there
patched : (ℕ → ℕ) → ℕ → ℕ → ℕ → ℕ
patched f p last q = cond (eqb q p) (f last) (f q)

patched-at : (f : ℕ → ℕ) (p last q : ℕ) → q ≡ p → patched f p last q ≡ f last
unfolding patched
patched-at f p last q e =
    let on : eqb q p ≡ true = grind (arith, common_steps) in ap (λ (b : Bool). cond b (f last) (f q)) on

patched-other : (f : ℕ → ℕ) (p last q : ℕ) → q ≢ p → patched f p last q ≡ f q
unfolding patched
patched-other f p last q ne =
    let off : eqb q p ≡ false = grind (arith, common_steps) in ap (λ (b : Bool). cond b (f last) (f q)) off

pub at_most : (n count : ℕ) (f : ℕ → ℕ) → ((p : ℕ) → p < count → f p < n) → ((p q : ℕ) → p < q → q < count → f p ≢ f q) → count ≤ n
at_most zero zero f below apart = omega arith
at_most zero (suc count) f below apart = absurd (let none = below 0 (omega arith) in omega arith)
at_most (suc n) zero f below apart = omega arith
at_most (suc n) (suc count) f below apart =
    let either : (p q : ℕ) → p ≢ q → p < suc count → q < suc count → f p ≢ f q = λ p q ne lp lq e. elim (cases_lt p q) [
      | inl lt ↦ apart p q lt lq e
      | inr ge ↦ apart q p (omega arith) lp (sym e)
    ] in
    elim (found f n (suc count)) [
      | inl (p, lt, is) ↦
          let smaller : count ≤ n =
          at_most n count (patched f p count)
          (λ q below_q. elim (cases_eq q p) [
            | inl e ↦
                let v = patched-at f p count q e in
                let bound = below count (omega arith) in
                let ne : f count ≢ f p = either count p (omega arith) (omega arith) lt in
                let ne_n : f count ≢ n = λ z. ne (z ∙ sym is) in omega arith
            | inr ne_q ↦
                let v = patched-other f p count q ne_q in
                let bound = below q (omega arith) in
                let ne : f q ≢ f p = either q p ne_q (omega arith) lt in
                let ne_n : f q ≢ n = λ z. ne (z ∙ sym is) in omega arith
          ])
          (λ q r lt_qr below_r. elim (cases_eq q p) [
            | inl e ↦
                let v = patched-at f p count q e in
                let r_other : r ≢ p = omega arith in
                let w = patched-other f p count r r_other in
                let ne : f count ≢ f r = either count r (omega arith) (omega arith) (omega arith) in
                λ z. ne (sym v ∙ z ∙ w)
            | inr ne_q ↦
                let v = patched-other f p count q ne_q in
                elim (cases_eq r p) [
                  | inl e ↦
                      let w = patched-at f p count r e in
                      let ne : f q ≢ f count = either q count (omega arith) (omega arith) (omega arith) in
                      λ z. ne (sym v ∙ z ∙ w)
                  | inr ne_r ↦
                      let w = patched-other f p count r ne_r in
                      let ne : f q ≢ f r = either q r (omega arith) (omega arith) (omega arith) in
                      λ z. ne (sym v ∙ z ∙ w)
                ]
          ]) in omega arith
      | inr none ↦
          let smaller : suc count ≤ n = at_most n (suc count) f (λ p lt. let bound = below p lt in let ne = none p lt in omega arith) apart in omega arith
    ]
