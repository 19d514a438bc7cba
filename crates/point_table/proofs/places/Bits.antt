-- Rows of bits that are changed one by one.
use Rattle.std.proofs.Common.{◌≡◌, ◌≢◌, ℕ, ◌/◌, ◌%◌, ◌^◌, ◌<◌, ◌≤◌, Bool, true, false, not, ◌&&◌, ◌||◌, inl, inr, List, [], length, get_or, set, refl, sym, ap, ◌∙◌, arith}
use Rattle.std.specs.Prelude.{◌==◌}
use Rattle.std.specs.Int.{bit_not, w64}
use Rattle.std.specs.Int.Bits.{bit_and}
use Rattle.std.proofs.lemmas.Bool.{cases_eq, eq-eqb, ne_eqb}
use Rattle.std.proofs.lemmas.List.{get_or-set_same, get_or-set_other, get_or_past}
use Rattle.bit_rows.specs.Rows.{word_bit, has_bit}
use Rattle.bit_rows.proofs.WordBits.{word_and, word_not, word_zero}
use Rattle.point_table.specs.Places.Places.{IsChanged}

-- rows with the same words have the same bits
pub same_words : (old new : List ℕ) → ((j : ℕ) → get_or new j 0 ≡ get_or old j 0) → (k : ℕ) → has_bit new k ≡ has_bit old k
unfolding has_bit
same_words old new same k = ap (λ w. word_bit w (k % 64)) (same (k / 64))

-- a row without words has no bits
pub no_words : (k : ℕ) → has_bit [] k ≡ false
unfolding has_bit
no_words k = ap (λ w. word_bit w (k % 64)) (get_or_past [] (k / 64) 0 (omega arith)) ∙ word_zero (k % 64)

-- past its end a row has none
pub past_end : (words : List ℕ) (k : ℕ) → length words ≤ k / 64 → has_bit words k ≡ false
unfolding has_bit
past_end words k past = ap (λ w. word_bit w (k % 64)) (get_or_past words (k / 64) 0 past) ∙ word_zero (k % 64)

-- one word is replaced by one that differs in one bit
pub word_changed : (words : List ℕ) (place word : ℕ) (bit : Bool) → place / 64 < length words →
    ((i : ℕ) → i < 64 → i ≢ place % 64 → word_bit word i ≡ word_bit (get_or words (place / 64) 0) i) → word_bit word (place % 64) ≡ bit →
    IsChanged words (set words (place / 64) word) place bit
unfolding has_bit
word_changed words place word bit within apart is = record {
  here = ap (λ w. word_bit w (place % 64)) (get_or-set_same words (place / 64) word 0 within) ∙ is;
  others = λ k other. elim (cases_eq (k / 64) (place / 64)) [
    | inr away ↦ ap (λ w. word_bit w (k % 64)) (get_or-set_other words (place / 64) (k / 64) word 0 away)
    | inl same ↦
        let differs : k % 64 ≢ place % 64 = λ e. other (omega (arith, e, same)) in
        ap (λ n. word_bit (get_or (set words (place / 64) word) n 0) (k % 64)) same ∙ ap (λ w. word_bit w (k % 64)) (get_or-set_same words (place / 64) word 0 within) ∙
        apart (k % 64) (omega arith) differs ∙ ap (λ n. word_bit (get_or words n 0) (k % 64)) (sym same)
  ];
}

or_false : (b : Bool) → (b || false) ≡ b
or_false true = refl
or_false false = refl

or_true : (b : Bool) → (b || true) ≡ true
or_true true = refl
or_true false = refl

and_true : (b : Bool) → (b && true) ≡ b
and_true true = refl
and_true false = refl

and_false : (b : Bool) → (b && false) ≡ false
and_false true = refl
and_false false = refl

-- a bit is set
pub bit_set : (words : List ℕ) (place old new : ℕ) → place / 64 < length words → old ≡ get_or words (place / 64) 0 →
    ((i : ℕ) → i < 64 → word_bit new i ≡ (word_bit old i || (i == place % 64))) → IsChanged words (set words (place / 64) new) place true
bit_set words place old new within is bits = word_changed words place new true within
    (λ i small apart. bits i small ∙ ap (λ b. word_bit old i || b) (ne_eqb i (place % 64) apart) ∙ or_false (word_bit old i) ∙ ap (λ w. word_bit w i) is)
    (bits (place % 64) (omega arith) ∙ ap (λ b. word_bit old (place % 64) || b) (eq-eqb (place % 64) (place % 64) refl) ∙ or_true (word_bit old (place % 64)))

-- a bit is taken away
pub bit_unset : (words : List ℕ) (place old mask : ℕ) → place / 64 < length words → old ≡ get_or words (place / 64) 0 → mask < 2 ^ 64 →
    ((i : ℕ) → i < 64 → word_bit mask i ≡ (word_bit 0 i || (i == place % 64))) → IsChanged words (set words (place / 64) (bit_and old (bit_not w64 mask))) place false
bit_unset words place old mask within is fits bits = word_changed words place (bit_and old (bit_not w64 mask)) false within
    (λ i small apart. both i small ∙ ap (λ b. word_bit old i && not b) (masked i small ∙ ne_eqb i (place % 64) apart) ∙ and_true (word_bit old i) ∙ ap (λ w. word_bit w i) is)
    (both (place % 64) (omega arith) ∙ ap (λ b. word_bit old (place % 64) && not b) (masked (place % 64) (omega arith) ∙ eq-eqb (place % 64) (place % 64) refl) ∙ and_false (word_bit old (place % 64)))
  where
    both : (i : ℕ) → i < 64 → word_bit (bit_and old (bit_not w64 mask)) i ≡ (word_bit old i && not (word_bit mask i))
    both i small = word_and old (bit_not w64 mask) i ∙ ap (λ b. word_bit old i && b) (word_not mask i fits small)

    masked : (i : ℕ) → i < 64 → word_bit mask i ≡ (i == place % 64)
    masked i small = bits i small ∙ ap (λ b. b || (i == place % 64)) (word_zero i)
