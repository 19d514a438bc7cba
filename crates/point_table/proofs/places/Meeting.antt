-- Words of the places that two concepts have or lack.
use Rattle.std.proofs.Common.{◌≡◌, ◌≢◌, ℕ, ◌+◌, ◌-◌, ◌*◌, ◌^◌, ◌<◌, ◌≤◌, Bool, true, false, not, ◌&&◌, inl, inr, List, [], length, get_or, refl, sym, ap, ◌∙◌, arith}
use Rattle.std.specs.Prelude.{if◌then◌else◌, ◌==◌}
use Rattle.std.specs.Int.{bit_not, trailing_zeros, w64}
use Rattle.std.specs.Int.Bits.{bit_and}
use Rattle.std.proofs.lemmas.Bool.{cases_Bool, cases_lt, and_parts, true≢false}
use Rattle.std.proofs.lemmas.Nat.Bits.{bit_at-trailing_zeros}
use Rattle.bit_rows.specs.Rows.{word_bit, has_bit, SomePlace}
use Rattle.bit_rows.proofs.WordBits.{word_and, word_not, word_zero, has_at, has_past, NoneBelow}
use Rattle.world_model.specs.Alive.{bit_of, point_at}
use Rattle.point_table.specs.Places.Places.{AreTold, PlaceState, IsNextMet, is_as, are_as, meets, shows_at}

-- a concept's row says which points it has
pub side_on : (points : List (List Bool)) (rows : List (List ℕ)) (live : List ℕ) (side : ℕ × Bool) (at word : ℕ) → AreTold points rows live → side.0 < length rows → word ≡ get_or (get_or rows side.0 []) at 0 →
    side.1 ≡ true → (j : ℕ) → j < 64 → 64 * at + j < length points → is_as (point_at points (64 * at + j)) side ≡ word_bit word j
side_on points rows live side at word told within is on j small there =
    let bits = point_at points (64 * at + j) in
    ap (λ b. if b then bit_of bits side.0 else not (bit_of bits side.0)) on ∙ sym (told.told side.0 (64 * at + j) within there) ∙ has_at (get_or rows side.0 []) at j small ∙ ap (λ w. word_bit w j) (sym is)

-- and which it lacks
pub side_off : (points : List (List Bool)) (rows : List (List ℕ)) (live : List ℕ) (side : ℕ × Bool) (at word : ℕ) → AreTold points rows live → side.0 < length rows → word ≡ get_or (get_or rows side.0 []) at 0 →
    word < 2 ^ 64 → side.1 ≡ false → (j : ℕ) → j < 64 → 64 * at + j < length points → is_as (point_at points (64 * at + j)) side ≡ word_bit (bit_not w64 word) j
side_off points rows live side at word told within is fits off j small there =
    let bits = point_at points (64 * at + j) in
    ap (λ b. if b then bit_of bits side.0 else not (bit_of bits side.0)) off ∙
    ap not (sym (told.told side.0 (64 * at + j) within there) ∙ has_at (get_or rows side.0 []) at j small ∙ ap (λ w. word_bit w j) (sym is)) ∙ sym (word_not word j fits small)

and_three : (x p q : Bool) → (x && (p && q)) ≡ ((x && p) && q)
and_three true p q = refl
and_three false p q = refl

-- a word of the live points that two concepts have or lack
pub met_bits : (s : PlaceState) (one other : ℕ × Bool) (at l a b : ℕ) → ((k : ℕ) → has_bit s.live k ≡ true → k < length s.points) → l ≡ get_or s.live at 0 →
    ((j : ℕ) → j < 64 → 64 * at + j < length s.points → is_as (point_at s.points (64 * at + j)) one ≡ word_bit a j) →
    ((j : ℕ) → j < 64 → 64 * at + j < length s.points → is_as (point_at s.points (64 * at + j)) other ≡ word_bit b j) →
    (j : ℕ) → j < 64 → meets s one other (64 * at + j) ≡ word_bit (bit_and (bit_and l a) b) j
met_bits s one other at l a b below is first second j small = elim (cases_Bool (has_bit s.live k)) [
  | inl on ↦
      ap (λ x. x && (p && q)) read ∙ ap (λ x. word_bit l j && (x && q)) (first j small (below k on)) ∙ ap (λ x. word_bit l j && (word_bit a j && x)) (second j small (below k on)) ∙
      and_three (word_bit l j) (word_bit a j) (word_bit b j) ∙ sym split
  | inr off ↦ ap (λ x. x && (p && q)) off ∙ sym (ap (λ x. (x && word_bit a j) && word_bit b j) (sym read ∙ off)) ∙ sym split
]
  where
    k : ℕ
    k = 64 * at + j

    p : Bool
    p = is_as (point_at s.points k) one

    q : Bool
    q = is_as (point_at s.points k) other

    read : has_bit s.live k ≡ word_bit l j
    read = has_at s.live at j small ∙ ap (λ w. word_bit w j) (sym is)

    split : word_bit (bit_and (bit_and l a) b) j ≡ ((word_bit l j && word_bit a j) && word_bit b j)
    split = word_and (bit_and l a) b j ∙ ap (λ x. x && word_bit b j) (word_and l a j)

-- no place from one to another passes
abbrev pub NoneIn : (ℕ → Bool) → ℕ → ℕ → Type 0
NoneIn test low high = (k : ℕ) → low ≤ k → k < high → test k ≡ false

-- none of 64 more, where their word is 0
pub none_in_more : (test : ℕ → Bool) (low i word : ℕ) → NoneIn test low (64 * i) → ((j : ℕ) → j < 64 → test (64 * i + j) ≡ word_bit word j) → word ≡ 0 → NoneIn test low (64 * (i + 1))
none_in_more test low i word none tells zero k above small = elim (cases_lt k (64 * i)) [
  | inl before ↦ none k above before
  | inr later ↦
      let j : ℕ = k - 64 * i in
      let same : k ≡ 64 * i + j = omega arith in
      let within : j < 64 = omega arith in
      ap test same ∙ tells j within ∙ ap (λ w. word_bit w j) zero ∙ word_zero j
]

-- the lowest bit of a word that is not 0, and those below it
pub low_bit : (test : ℕ → Bool) (i word : ℕ) → word ≢ 0 → word < 2 ^ 64 → ((j : ℕ) → j < 64 → test (64 * i + j) ≡ word_bit word j) →
    (trailing_zeros w64 word < 64) × (test (64 * i + trailing_zeros w64 word) ≡ true) × ((j : ℕ) → j < trailing_zeros w64 word → test (64 * i + j) ≡ false)
unfolding word_bit
low_bit test i word some fits tells =
    let low = bit_at-trailing_zeros w64 word (omega arith) fits in
    let within : trailing_zeros w64 word < 64 = low.0 in (
      within,
      tells (trailing_zeros w64 word) within ∙ ap (λ x. x == 1) low.1,
      λ j under. tells j (omega (arith, within, under)) ∙ ap (λ x. x == 1) (low.2 j under),
    )

-- so it is the first place that passes
pub met_first : (s : PlaceState) (from i word : ℕ) (one other : ℕ × Bool) → ((k : ℕ) → has_bit s.live k ≡ true → k < length s.points) → word ≢ 0 → word < 2 ^ 64 → from ≤ i →
    ((j : ℕ) → j < 64 → meets s one other (64 * i + j) ≡ word_bit word j) → NoneIn (meets s one other) (64 * from) (64 * i) → IsNextMet s from one other (64 * i + trailing_zeros w64 word)
met_first s from i word one other below some fits later tells none =
    let low = low_bit (meets s one other) i word some fits tells in
    let place = 64 * i + trailing_zeros w64 word in
    record {
      there = below place (and_parts (has_bit s.live place) (are_as s.points one other place) low.1).0;
      low = omega (arith, later);
      met = low.1;
      before = λ k above under. elim (cases_lt k (64 * i)) [
        | inl before ↦ none k above before
        | inr after ↦
            let j : ℕ = k - 64 * i in
            let same : k ≡ 64 * i + j = omega arith in
            ap (meets s one other) same ∙ low.2 j (omega arith)
      ];
    }

-- a word of those that are used too
pub shown_bits : (s : PlaceState) (one other : ℕ × Bool) (at u m : ℕ) → u ≡ get_or s.used at 0 → ((j : ℕ) → j < 64 → meets s one other (64 * at + j) ≡ word_bit m j) →
    (j : ℕ) → j < 64 → shows_at s one other (64 * at + j) ≡ word_bit (bit_and u m) j
shown_bits s one other at u m is tells j small =
    ap (λ x. x && meets s one other (64 * at + j)) (has_at s.used at j small ∙ ap (λ w. word_bit w j) (sym is)) ∙ ap (λ x. word_bit u j && x) (tells j small) ∙ sym (word_and u m j)

-- where none is below the end, none is shown
pub none_shown : (s : PlaceState) (one other : ℕ × Bool) (at : ℕ) → NoneBelow (shows_at s one other) (64 * at) → length s.used ≤ at → SomePlace (shows_at s one other) → ⊥
none_shown s one other at none long some = elim (cases_lt some.place (64 * at)) [
  | inl before ↦ true≢false (sym some.passes ∙ none some.place before)
  | inr past ↦ true≢false (sym some.passes ∙ ap (λ x. x && meets s one other some.place) (has_past s.used at some.place long past))
]
