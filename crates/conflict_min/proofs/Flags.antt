-- Lists of flags: which keep fewer than others, and the places of those that are true.
use Rattle.std.proofs.Common.{◌≡◌, ℕ, zero, suc, ◌+◌, ◌<◌, ◌≤◌, Bool, true, false, List, [], ◌∷◌, ◌++◌, map, length, get_or, take, drop, set, length-take-le, refl, sym, ap, ◌∙◌, subst, arith, is_lt}
use Rattle.std.specs.Prelude.{Some, slice_get}
use Rattle.std.proofs.lemmas.Bool.{false≢true}
use Rattle.std.proofs.lemmas.List.{take_more}
use Rattle.std.proofs.lemmas.Option.{same_Some}
use Rattle.world_model.specs.Questions.{flags_cmp}
use Rattle.conflict_min.specs.Conflicts.{places_from}
use Rattle.family_solver.specs.Kept.Keeping.{IsWithin}
use Rattle.conflict_min.specs.Shrinking.{cut}

-- all flags true, one for each of a list
abbrev trues : {X : Type 0} → List X → List Bool
trues xs = map (λ _. true) xs

within_trues : {X : Type 0} (xs : List X) (flags : List Bool) → length flags ≡ length xs → IsWithin flags (trues xs)
within_trues xs [] n k h = cc
within_trues [] (b ∷ flags) n k h = absurd (omega arith)
within_trues (x ∷ xs) (b ∷ flags) n zero h = refl
within_trues (x ∷ xs) (b ∷ flags) n (suc k) h = within_trues xs flags (omega arith) k h

within_cons : (b : Bool) (fewer more : List Bool) → IsWithin fewer more → IsWithin (b ∷ fewer) (b ∷ more)
within_cons b fewer more within zero h = h
within_cons b fewer more within (suc k) h = within k h

-- one flag taken off, and all behind it kept
pub within_cut : {X : Type 0} (xs : List X) (kept : List Bool) (place : ℕ) → length kept ≡ length xs →
    IsWithin (set kept place false) (take place kept ++ false ∷ drop (suc place) (trues xs))
within_cut xs [] place n k h = cc
within_cut [] (b ∷ kept) place n k h = absurd (omega arith)
within_cut (x ∷ xs) (b ∷ kept) zero n k h = within_cons false kept (trues xs) (within_trues xs kept (omega arith)) k h
within_cut (x ∷ xs) (b ∷ kept) (suc place) n zero h = h
within_cut (x ∷ xs) (b ∷ kept) (suc place) n (suc k) h = within_cut xs kept place (omega arith) k h

-- where a list that comes before another first differs from it, it has a flag less
pub record IsBefore {X : Type 0} (xs : List X) (kept other : List Bool) : Type 0 where
  pub place : ℕ
  pub there : slice_get kept place ≡ Some true
  pub within : IsWithin other (take place kept ++ false ∷ drop (suc place) (trues xs))

before_cons : {X : Type 0} (x : X) (xs : List X) (b : Bool) (kept other : List Bool) → IsBefore xs kept other → IsBefore (x ∷ xs) (b ∷ kept) (b ∷ other)
before_cons x xs b kept other before = record {
  place = suc before.place;
  there = before.there;
  within = within_cons b other (take before.place kept ++ false ∷ drop (suc before.place) (trues xs)) before.within;
}

pub is_before : {X : Type 0} (xs : List X) (kept other : List Bool) → length kept ≡ length xs → length other ≡ length xs → is_lt (flags_cmp other kept) ≡ true → IsBefore xs kept other
is_before xs [] [] n m less = absurd (false≢true less)
is_before xs [] (c ∷ other) n m less = absurd (omega arith)
is_before xs (b ∷ kept) [] n m less = absurd (omega arith)
is_before [] (b ∷ kept) (c ∷ other) n m less = absurd (omega arith)
is_before (x ∷ xs) (true ∷ kept) (false ∷ other) n m less =
    record { place = 0; there = refl; within = within_cons false other (trues xs) (within_trues xs other (omega arith)) }
is_before (x ∷ xs) (false ∷ kept) (true ∷ other) n m less = absurd (false≢true less)
is_before (x ∷ xs) (true ∷ kept) (true ∷ other) n m less = before_cons x xs true kept other (is_before xs kept other (omega arith) (omega arith) less)
is_before (x ∷ xs) (false ∷ kept) (false ∷ other) n m less = before_cons x xs false kept other (is_before xs kept other (omega arith) (omega arith) less)

-- a flag put back
pub set_back : {X : Type 0} (xs : List X) (kept : List Bool) (place : ℕ) → place < length xs → drop place kept ≡ drop place (trues xs) → set kept place true ≡ kept
set_back [] kept place low h = absurd (omega arith)
set_back (x ∷ xs) kept zero low h = subst (λ flags. set flags 0 true ≡ flags) (sym h) refl
set_back (x ∷ xs) [] (suc place) low h = refl
set_back (x ∷ xs) (b ∷ kept) (suc place) low h = ap (λ flags. b ∷ flags) (set_back xs kept place (omega arith) h)

-- the places of true flags, with one more flag
places_true : (j : ℕ) (flags : List Bool) → places_from j (flags ++ true ∷ []) ≡ places_from j flags ++ (j + length flags) ∷ []
places_true j [] = ap (λ k. k ∷ []) (omega arith)
places_true j (true ∷ flags) = ap (λ ks. j ∷ ks) (places_true (j + 1) flags ∙ ap (λ k. places_from (j + 1) flags ++ k ∷ []) (omega arith))
places_true j (false ∷ flags) = places_true (j + 1) flags ∙ ap (λ k. places_from (j + 1) flags ++ k ∷ []) (omega arith)

places_false : (j : ℕ) (flags : List Bool) → places_from j (flags ++ false ∷ []) ≡ places_from j flags
places_false j [] = refl
places_false j (true ∷ flags) = ap (λ ks. j ∷ ks) (places_false (j + 1) flags)
places_false j (false ∷ flags) = places_false (j + 1) flags

-- those of the first flags, with the next one
pub places_more : (flags : List Bool) (place : ℕ) → place < length flags → get_or flags place false ≡ true → places_from 0 (take (place + 1) flags) ≡ places_from 0 (take place flags) ++ place ∷ []
places_more flags place low kept =
    ap (places_from 0) (take_more flags place false low ∙ ap (λ b. take place flags ++ b ∷ []) kept)
    ∙ places_true 0 (take place flags)
    ∙ ap (λ k. places_from 0 (take place flags) ++ k ∷ []) (omega (arith, length-take-le place flags (omega arith)))

pub places_less : (flags : List Bool) (place : ℕ) → place < length flags → get_or flags place false ≡ false → places_from 0 (take (place + 1) flags) ≡ places_from 0 (take place flags)
places_less flags place low off =
    ap (places_from 0) (take_more flags place false low ∙ ap (λ b. take place flags ++ b ∷ []) off) ∙ places_false 0 (take place flags)

-- they are those of flags
pub places_within : (j : ℕ) (flags : List Bool) (m place : ℕ) → slice_get (places_from j flags) m ≡ Some place → place < j + length flags
places_within j [] m place h = absurd (cc)
places_within j (true ∷ flags) zero place h = let same : j ≡ place = same_Some j place h in omega arith
places_within j (true ∷ flags) (suc m) place h = let low = places_within (j + 1) flags m place h in omega (arith, low)
places_within j (false ∷ flags) m place h = let low = places_within (j + 1) flags m place h in omega (arith, low)

-- each true flag has one
pub place_found : (j : ℕ) (flags : List Bool) (place : ℕ) → slice_get flags place ≡ Some true → (m : ℕ) × (slice_get (places_from j flags) m ≡ Some (j + place))
place_found j [] place h = absurd (cc)
place_found j (true ∷ flags) zero h = (0, ap Some (omega arith))
place_found j (false ∷ flags) zero h = absurd (cc)
place_found j (true ∷ flags) (suc place) h = let rest = place_found (j + 1) flags place h in (suc rest.0, rest.1 ∙ ap Some (omega arith))
place_found j (false ∷ flags) (suc place) h = let rest = place_found (j + 1) flags place h in (rest.0, rest.1 ∙ ap Some (omega arith))

-- where a list has an item, another of its length has one
pub item_beside : {X Y : Type 0} (xs : List X) (ys : List Y) (m : ℕ) (x : X) → length ys ≡ length xs → slice_get xs m ≡ Some x → (y : Y) × (slice_get ys m ≡ Some y)
item_beside [] ys m x n h = absurd (cc)
item_beside (x ∷ xs) [] m z n h = absurd (omega arith)
item_beside (x ∷ xs) (y ∷ ys) zero z n h = (y, refl)
item_beside (x ∷ xs) (y ∷ ys) (suc m) z n h = item_beside xs ys m z (omega arith) h

-- none taken off
pub cut_none : (kept : List Bool) (place : ℕ) → cut kept place 0 ≡ kept
cut_none [] place = refl
cut_none (b ∷ kept) zero = refl
cut_none (b ∷ kept) (suc place) = ap (λ flags. b ∷ flags) (cut_none kept place)

-- there are as many flags when some are taken off
pub length_cut : (kept : List Bool) (place count : ℕ) → length (cut kept place count) ≡ length kept
length_cut [] place count = refl
length_cut (b ∷ kept) (suc place) count = ap suc (length_cut kept place count)
length_cut (b ∷ kept) zero (suc count) = ap suc (length_cut kept 0 count)
length_cut (b ∷ kept) zero zero = refl

-- one more taken off
pub cut_more : (kept : List Bool) (place count : ℕ) → place + count < length kept → set (cut kept place count) (place + count) false ≡ cut kept place (suc count)
cut_more [] place count low = absurd (omega arith)
cut_more (b ∷ kept) (suc place) count low =
    let next : suc place + count ≡ suc (place + count) = omega arith in
    ap (λ k. set (b ∷ cut kept place count) k false) next ∙ ap (λ flags. b ∷ flags) (cut_more kept place count (omega arith))
cut_more (b ∷ kept) zero zero low = ap (λ flags. false ∷ flags) (sym (cut_none kept 0))
cut_more (b ∷ kept) zero (suc count) low =
    let next : 0 + suc count ≡ suc (0 + count) = omega arith in ap (λ k. set (false ∷ cut kept 0 count) k false) next ∙ ap (λ flags. false ∷ flags) (cut_more kept 0 count (omega arith))

-- where more are taken off, fewer are kept
within_false : (b : Bool) (fewer more : List Bool) → IsWithin fewer more → IsWithin (false ∷ fewer) (b ∷ more)
within_false b fewer more within zero h = let no : Some false ≡ Some true = h in absurd (cc)
within_false b fewer more within (suc k) h = within k h

pub cut_within : (kept : List Bool) (place few many : ℕ) → few ≤ many → IsWithin (cut kept place many) (cut kept place few)
cut_within [] place few many h k at = at
cut_within (b ∷ kept) (suc place) few many h k at = within_cons b (cut kept place many) (cut kept place few) (cut_within kept place few many h) k at
cut_within (b ∷ kept) zero zero zero h k at = at
cut_within (b ∷ kept) zero zero (suc many) h k at =
    within_false b (cut kept 0 many) kept (subst (IsWithin (cut kept 0 many)) (cut_none kept 0) (cut_within kept 0 0 many (omega arith))) k at
cut_within (b ∷ kept) zero (suc few) zero h k at = absurd (omega arith)
cut_within (b ∷ kept) zero (suc few) (suc many) h k at = within_cons false (cut kept 0 many) (cut kept 0 few) (cut_within kept 0 few many (omega arith)) k at
