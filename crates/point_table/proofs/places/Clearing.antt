-- Words of the points that are in no region of a pair that is forced empty, and of the places at risk.
use Rattle.std.proofs.Common.{◌≡◌, ℕ, ◌+◌, ◌-◌, ◌*◌, ◌^◌, ◌<◌, ◌≤◌, Bool, true, false, not, ◌&&◌, ◌||◌, inl, inr, [], ◌∷◌, length, refl, sym, ap, ◌∙◌, subst, arith}
use Rattle.std.specs.Int.{bit_not, w64}
use Rattle.std.specs.Int.Bits.{bit_and}
use Rattle.std.proofs.Math.Bool.{or-true}
use Rattle.std.proofs.lemmas.Bool.{cases_Bool, cases_lt, and_from, and_parts, true≢false}
use Rattle.bit_rows.specs.Rows.{word_bit, has_bit}
use Rattle.bit_rows.proofs.WordBits.{word_and, word_not, word_zero, has_at, has_past, fits_and, or_off}
use Rattle.rcc5_core.specs.Region.{word_at, same_word}
use Rattle.rcc5_core.specs.declared.Occupancy.TheVariants.{Empty}
use Rattle.rcc5_core.specs.declared.Region.TheVariants.{LeftOnly, Both, RightOnly}
use Rattle.rcc5_core.specs.declared.Regions.{Regions}
use Rattle.world_model.specs.Alive.{avoids_by}
use Rattle.point_table.specs.Places.Places.{PlaceState, is_clear, is_at_risk, meets, meets_clear, are_as}

-- all bits, where a cell is not forced empty
pub out_all : (are free : Bool) (j : ℕ) → free ≡ true → j < 64 → (not are || free) ≡ word_bit (bit_not w64 0) j
out_all are free j is small = ap (λ b. not are || b) is ∙ or-true (not are) ∙ sym (word_not 0 j (omega arith) small ∙ ap not (word_zero j))

-- those of the points that are not in the cell, where it is
pub out_some : (p q free : Bool) (a b j : ℕ) → free ≡ false → p ≡ word_bit a j → q ≡ word_bit b j → a < 2 ^ 64 → j < 64 → (not (p && q) || free) ≡ word_bit (bit_not w64 (bit_and a b)) j
out_some p q free a b j none first second fits small =
    ap (λ x. not (p && q) || x) none ∙ or_off (not (p && q)) ∙ ap (λ x. not (x && q)) first ∙ ap (λ x. not (word_bit a j && x)) second ∙
    ap not (sym (word_and a b j)) ∙ sym (word_not (bit_and a b) j (fits_and a b fits) small)

and_yes : (b : Bool) → (b && true) ≡ b
and_yes true = refl
and_yes false = refl

and_no : (b : Bool) → (b && false) ≡ false
and_no true = refl
and_no false = refl

-- a region by whether a point is in the two concepts: it is out of each of three cells
clear_by : (regions : Regions) (l r : Bool) →
    avoids_by regions l r ≡ (((not (l && r) || avoids_by regions true true) && (not (l && not r) || avoids_by regions true false)) && (not (not l && r) || avoids_by regions false true))
clear_by regions true true = sym (and_yes (avoids_by regions true true && true) ∙ and_yes (avoids_by regions true true))
clear_by regions true false = sym (and_yes (avoids_by regions true false))
clear_by regions false true = refl
clear_by regions false false =
    rw (and_no (same_word (word_at regions LeftOnly) Empty), and_no (same_word (word_at regions Both) Empty), and_no (same_word (word_at regions RightOnly) Empty)) refl

pub clear_bits : (regions : Regions) (l r : Bool) (a b c j : ℕ) → (not (l && r) || avoids_by regions true true) ≡ word_bit a j →
    (not (l && not r) || avoids_by regions true false) ≡ word_bit b j → (not (not l && r) || avoids_by regions false true) ≡ word_bit c j →
    avoids_by regions l r ≡ word_bit (bit_and (bit_and a b) c) j
clear_bits regions l r a b c j both left right =
    clear_by regions l r ∙ ap (λ x. (x && (not (l && not r) || avoids_by regions true false)) && (not (not l && r) || avoids_by regions false true)) both ∙
    ap (λ x. (word_bit a j && x) && (not (not l && r) || avoids_by regions false true)) left ∙ ap (λ x. (word_bit a j && word_bit b j) && x) right ∙
    sym (word_and (bit_and a b) c j ∙ ap (λ x. x && word_bit c j) (word_and a b j))

-- a word of the live points that are as is said of two concepts, and clear
pub clear_met : (s : PlaceState) (one other : ℕ × Bool) (pair : ℕ × ℕ) (regions : Regions) (at m a : ℕ) → ((k : ℕ) → has_bit s.live k ≡ true → k < length s.points) →
    ((j : ℕ) → j < 64 → meets s one other (64 * at + j) ≡ word_bit m j) →
    ((j : ℕ) → j < 64 → 64 * at + j < length s.points → is_clear s.points pair regions (64 * at + j) ≡ word_bit a j) →
    (j : ℕ) → j < 64 → meets_clear s one other pair regions (64 * at + j) ≡ word_bit (bit_and m a) j
clear_met s one other pair regions at m a below met clear j small = elim (cases_Bool (meets s one other k)) [
  | inl on ↦
      let there = below k (and_parts (has_bit s.live k) (are_as s.points one other k) on).0 in
      ap (λ x. meets s one other k && x) (clear j small there) ∙ ap (λ x. x && word_bit a j) (met j small) ∙ sym (word_and m a j)
  | inr off ↦ ap (λ x. x && is_clear s.points pair regions k) off ∙ sym (word_and m a j ∙ ap (λ x. x && word_bit a j) (sym (met j small) ∙ off))
]
  where
    k : ℕ
    k = 64 * at + j

-- a place at risk has its bit
pub risk_bit : (s : PlaceState) (pair : ℕ × ℕ) (regions : Regions) (at j u l a : ℕ) → ((k : ℕ) → has_bit s.live k ≡ true → k < length s.points) → j < 64 → a < 2 ^ 64 →
    has_bit s.used (64 * at + j) ≡ word_bit u j → has_bit s.live (64 * at + j) ≡ word_bit l j →
    ((j : ℕ) → j < 64 → 64 * at + j < length s.points → is_clear s.points pair regions (64 * at + j) ≡ word_bit a j) →
    is_at_risk s pair regions (64 * at + j) ≡ true → word_bit (bit_and (bit_and u l) (bit_not w64 a)) j ≡ true
risk_bit s pair regions at j u l a below small fits used live clear risk =
    let k = 64 * at + j in
    let one = and_parts (has_bit s.used k) (has_bit s.live k && not (is_clear s.points pair regions k)) risk in
    let two = and_parts (has_bit s.live k) (not (is_clear s.points pair regions k)) one.1 in
    let there = below k two.0 in
    word_and (bit_and u l) (bit_not w64 a) j ∙ ap (λ x. x && word_bit (bit_not w64 a) j) (word_and u l j) ∙
    and_from (word_bit u j && word_bit l j) (word_bit (bit_not w64 a) j) (and_from (word_bit u j) (word_bit l j) (sym used ∙ one.0) (sym live ∙ two.0))
    (word_not a j fits small ∙ ap not (sym (clear j small there)) ∙ two.1)

-- and a bit is that of a live place
pub bit_live : (s : PlaceState) (at j u l a : ℕ) → has_bit s.live (64 * at + j) ≡ word_bit l j → word_bit (bit_and (bit_and u l) (bit_not w64 a)) j ≡ true → has_bit s.live (64 * at + j) ≡ true
bit_live s at j u l a live h =
    let one = and_parts (word_bit (bit_and u l) j) (word_bit (bit_not w64 a) j) (sym (word_and (bit_and u l) (bit_not w64 a) j) ∙ h) in
    live ∙ (and_parts (word_bit u j) (word_bit l j) (sym (word_and u l j) ∙ one.0)).1

-- no place is at risk past the end of the row of those that are used
pub past_risk : (s : PlaceState) (pair : ℕ × ℕ) (regions : Regions) (at k : ℕ) → length s.used ≤ at → 64 * at ≤ k → is_at_risk s pair regions k ≡ true → ⊥
past_risk s pair regions at k long past risk =
    true≢false (sym (and_parts (has_bit s.used k) (has_bit s.live k && not (is_clear s.points pair regions k)) risk).0 ∙ has_past s.used at k long past)

-- what holds below a number, and of it, holds below the next
pub more_below : (P : ℕ → Type 0) (n : ℕ) → ((k : ℕ) → k < n → P k) → P n → (k : ℕ) → k < n + 1 → P k
more_below P n before last k small = elim (cases_lt k n) [
  | inl less ↦ before k less
  | inr not_less ↦ let same : k ≡ n = omega arith in subst P (sym same) last
]

-- and below 64 times it, and of the next 64, below 64 times the next
pub more_words : (P : ℕ → Type 0) (at : ℕ) → ((k : ℕ) → k < 64 * at → P k) → ((j : ℕ) → j < 64 → P (64 * at + j)) → (k : ℕ) → k < 64 * (at + 1) → P k
more_words P at before word k small = elim (cases_lt k (64 * at)) [
  | inl less ↦ before k less
  | inr past ↦
      let j : ℕ = k - 64 * at in
      let same : 64 * at + j ≡ k = omega arith in
      subst P same (word j (omega arith))
]

-- a row of one word
pub one_word : (word j : ℕ) → j < 64 → has_bit (word ∷ []) j ≡ word_bit word j
one_word word j small =
    let same : j ≡ 64 * 0 + j = omega arith in
    ap (has_bit (word ∷ [])) same ∙ has_at (word ∷ []) 0 j small
