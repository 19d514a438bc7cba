-- Subsets and common elements of ascending lists, one element at a time.
use Rattle.std.proofs.Common.{◌≡◌, ℕ, ◌+◌, ◌<◌, ◌≤◌, Bool, true, false, List, [], ◌∷◌, refl, sym, ap, ◌∙◌, IsTrue, arith, length, drop, get_or, ◌⊎◌, inl, inr, ◌≢◌}
use Rattle.std.specs.Prelude.{◌==◌}
use Rattle.std.proofs.lemmas.List.{drop_more, drop_all}
use Rattle.std.proofs.lemmas.Bool.{and_parts, or_from, ne_eqb, eq-eqb, cases_eq}
use Rattle.rcc5_core.specs.Relation.{is_in, is_subset, have_common, is_ascending}
use Rattle.rcc5_core.proofs.Sets.{not_in_above, is_subset-lacking, have_common-lacking, have_common-nil, all_above, at_rest}

-- a number below the least of an ascending list isn't in it
below_least : (a c : ℕ) (ys : List ℕ) → a < c → IsTrue (is_ascending (c ∷ ys)) → is_in a (c ∷ ys) ≡ false
below_least a c ys below h =
    let apart : (a == c) ≡ false = ne_eqb a c (λ e. omega arith) in
    or_from (a == c) (is_in a ys) apart (not_in_above a ys (all_above a c ys below (and_parts _ (is_ascending ys) h).0))

-- a least element of the left alone is no element of the right
subset_lacks : (a c : ℕ) (xs ys : List ℕ) → a < c → IsTrue (is_ascending (c ∷ ys)) → is_subset (a ∷ xs) (c ∷ ys) ≡ false
subset_lacks a c xs ys below right = rw (below_least a c ys below right) refl

-- a least element of the right alone may be left out
subset_right : (a c : ℕ) (xs ys : List ℕ) → c < a → IsTrue (is_ascending (a ∷ xs)) → is_subset (a ∷ xs) ys ≡ is_subset (a ∷ xs) (c ∷ ys)
subset_right a c xs ys below left = sym (is_subset-lacking c (a ∷ xs) ys (below_least c a xs below left))

-- and a least element of both
subset_both : (a : ℕ) (xs ys : List ℕ) → IsTrue (is_ascending (a ∷ xs)) → is_subset xs ys ≡ is_subset (a ∷ xs) (a ∷ ys)
subset_both a xs ys left =
    let same : (a == a) ≡ true = eq-eqb a a refl in
    let lacks : is_in a xs ≡ false = not_in_above a xs (and_parts _ (is_ascending xs) left).0 in
    rw (same, is_subset-lacking a xs ys lacks) refl

-- two rests of lists, each as its first number and what follows
at_rests : (F : List ℕ → List ℕ → Bool) (xs ys : List ℕ) (i j : ℕ) → i < length xs → j < length ys →
    F (drop i xs) (drop j ys) ≡ F (get_or xs i 0 ∷ drop (i + 1) xs) (get_or ys j 0 ∷ drop (j + 1) ys)
at_rests F xs ys i j in_x in_y = rw (drop_more xs i 0 in_x, drop_more ys j 0 in_y) refl

pub subset_step_lacks : (xs ys : List ℕ) (i j : ℕ) → i < length xs → j < length ys → get_or xs i 0 < get_or ys j 0 →
    IsTrue (is_ascending (drop j ys)) → is_subset (drop i xs) (drop j ys) ≡ false
subset_step_lacks xs ys i j in_x in_y below right =
    at_rests is_subset xs ys i j in_x in_y ∙
    subset_lacks (get_or xs i 0) (get_or ys j 0) (drop (i + 1) xs) (drop (j + 1) ys) below (at_rest ys j in_y right)

pub subset_step_right : (xs ys : List ℕ) (i j : ℕ) → i < length xs → j < length ys → get_or ys j 0 < get_or xs i 0 →
    IsTrue (is_ascending (drop i xs)) → is_subset (drop i xs) (drop (j + 1) ys) ≡ is_subset (drop i xs) (drop j ys)
subset_step_right xs ys i j in_x in_y below left =
    ap (λ rest. is_subset rest (drop (j + 1) ys)) (drop_more xs i 0 in_x) ∙
    subset_right (get_or xs i 0) (get_or ys j 0) (drop (i + 1) xs) (drop (j + 1) ys) below (at_rest xs i in_x left) ∙
    sym (at_rests is_subset xs ys i j in_x in_y)

pub subset_step_both : (xs ys : List ℕ) (i j : ℕ) → i < length xs → j < length ys → get_or ys j 0 ≡ get_or xs i 0 →
    IsTrue (is_ascending (drop i xs)) → is_subset (drop (i + 1) xs) (drop (j + 1) ys) ≡ is_subset (drop i xs) (drop j ys)
subset_step_both xs ys i j in_x in_y same left =
    subset_both (get_or xs i 0) (drop (i + 1) xs) (drop (j + 1) ys) (at_rest xs i in_x left) ∙
    ap (λ y. is_subset (get_or xs i 0 ∷ drop (i + 1) xs) (y ∷ drop (j + 1) ys)) (sym same) ∙
    sym (at_rests is_subset xs ys i j in_x in_y)

-- at the end, all of the left were found where none of it is left
pub subset_end : (xs ys : List ℕ) (i j : ℕ) → (length xs ≤ i) ⊎ (length ys ≤ j) → i ≤ length xs → (i == length xs) ≡ is_subset (drop i xs) (drop j ys)
subset_end xs ys i j (inl done) within =
    eq-eqb i (length xs) (omega arith) ∙ sym (ap (λ rest. is_subset rest (drop j ys)) (drop_all i xs done))
subset_end xs ys i j (inr done) within =
    ended (cases_eq i (length xs)) ∙ sym (ap (λ rest. is_subset (drop i xs) rest) (drop_all j ys done))
  where
    ended : (i ≡ length xs) ⊎ (i ≢ length xs) → (i == length xs) ≡ is_subset (drop i xs) []
    ended (inl same) = eq-eqb i (length xs) same ∙ sym (ap (λ rest. is_subset rest []) (drop_all i xs (omega arith)))
    ended (inr apart) = ne_eqb i (length xs) apart ∙ sym (ap (λ rest. is_subset rest []) (drop_more xs i 0 (omega arith)))

-- a least element of the left alone is not in common
common_left : (a c : ℕ) (xs ys : List ℕ) → a < c → IsTrue (is_ascending (c ∷ ys)) → have_common xs (c ∷ ys) ≡ have_common (a ∷ xs) (c ∷ ys)
common_left a c xs ys below right = rw (below_least a c ys below right) refl

pub common_step_left : (xs ys : List ℕ) (i j : ℕ) → i < length xs → j < length ys → get_or xs i 0 < get_or ys j 0 →
    IsTrue (is_ascending (drop j ys)) → have_common (drop (i + 1) xs) (drop j ys) ≡ have_common (drop i xs) (drop j ys)
common_step_left xs ys i j in_x in_y below right =
    ap (λ rest. have_common (drop (i + 1) xs) rest) (drop_more ys j 0 in_y) ∙
    common_left (get_or xs i 0) (get_or ys j 0) (drop (i + 1) xs) (drop (j + 1) ys) below (at_rest ys j in_y right) ∙
    sym (at_rests have_common xs ys i j in_x in_y)

pub common_step_right : (xs ys : List ℕ) (i j : ℕ) → i < length xs → j < length ys → get_or ys j 0 < get_or xs i 0 →
    IsTrue (is_ascending (drop i xs)) → have_common (drop i xs) (drop (j + 1) ys) ≡ have_common (drop i xs) (drop j ys)
common_step_right xs ys i j in_x in_y below left =
    ap (λ rest. have_common rest (drop (j + 1) ys)) (drop_more xs i 0 in_x) ∙
    sym (have_common-lacking (get_or ys j 0) (get_or xs i 0 ∷ drop (i + 1) xs) (drop (j + 1) ys)
    (below_least (get_or ys j 0) (get_or xs i 0) (drop (i + 1) xs) below (at_rest xs i in_x left))) ∙
    sym (at_rests have_common xs ys i j in_x in_y)

pub common_end : (xs ys : List ℕ) (i j : ℕ) → (length xs ≤ i) ⊎ (length ys ≤ j) → have_common (drop i xs) (drop j ys) ≡ false
common_end xs ys i j (inl done) = ap (λ rest. have_common rest (drop j ys)) (drop_all i xs done)
common_end xs ys i j (inr done) = ap (λ rest. have_common (drop i xs) rest) (drop_all j ys done) ∙ have_common-nil (drop i xs)
