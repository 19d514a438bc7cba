-- Sets of numbers as lists: membership, subsets and common elements, one element at a time.
use Rattle.std.proofs.Common.{◌≡◌, ℕ, ◌<◌, Bool, true, false, ◌&&◌, ◌||◌, not, List, [], ◌∷◌, refl, sym, ◌∙◌, subst, IsTrue, arith, cond, length, drop, get_or, ◌+◌, ◌≤◌, ◌⊎◌, inl, inr}
use Rattle.std.proofs.lemmas.List.{drop_more, drop_all, length-drop}
use Rattle.std.specs.Prelude.{◌==◌, nat_lt}
use Rattle.std.specs.List.{list_all}
use Rattle.std.proofs.lemmas.Bool.{ltb-true, eqb-false, and_parts, and_from, or_parts, or_from, ne_eqb, eq-eqb, lt-ltb, le-ltb, cases_lt}
use Rattle.rcc5_core.specs.Relation.{is_in, is_subset, have_common, is_ascending, relation_of, relation_by}
use Rattle.rcc5_core.specs.declared.Rel.{Rel}
use Rattle.rcc5_core.specs.declared.Rel.TheVariants.{Equals, Includes, IncludedIn, Overlaps, Disjoint}

-- a number below all others is none of them
pub not_in_above : (a : ℕ) (ys : List ℕ) → list_all (λ y. nat_lt a y) ys ≡ true → is_in a ys ≡ false
not_in_above a [] h = refl
not_in_above a (y ∷ ys) h =
    let parts = and_parts (nat_lt a y) (list_all (λ y. nat_lt a y) ys) h in
    let below : a < y = ltb-true a y parts.0 in
    or_from (a == y) (is_in a ys) (ne_eqb a y (λ e. omega arith)) (not_in_above a ys parts.1)

-- what a set lacks may be left out of a set that it is tested against
pub is_subset-lacking : (a : ℕ) (ys xs : List ℕ) → is_in a ys ≡ false → is_subset ys (a ∷ xs) ≡ is_subset ys xs
is_subset-lacking a [] xs h = refl
is_subset-lacking a (y ∷ ys) xs h =
    let parts = or_parts (a == y) (is_in a ys) h in
    let apart : (y == a) ≡ false = ne_eqb y a (λ e. eqb-false a y parts.0 (sym e)) in
    rw (apart, is_subset-lacking a ys xs parts.1) refl

-- two sets have nothing in common by a number that the first lacks
pub have_common-lacking : (b : ℕ) (xs ys : List ℕ) → is_in b xs ≡ false → have_common xs (b ∷ ys) ≡ have_common xs ys
have_common-lacking b [] ys h = refl
have_common-lacking b (x ∷ xs) ys h =
    let parts = or_parts (b == x) (is_in b xs) h in
    let apart : (x == b) ≡ false = ne_eqb x b (λ e. eqb-false b x parts.0 (sym e)) in
    rw (apart, have_common-lacking b xs ys parts.1) refl

-- the empty set has nothing in common with any
pub have_common-nil : (xs : List ℕ) → have_common xs [] ≡ false
have_common-nil [] = refl
have_common-nil (x ∷ xs) = have_common-nil xs

-- the tests of a relation in the order of its definition, against its three regions
by_tests : (b c d : Bool) → (cond (b && d) Equals (cond b IncludedIn (cond d Includes (cond (not c) Disjoint Overlaps)))) ≡ relation_by (not b) c (not d)
by_tests true c true = refl
by_tests true c false = refl
by_tests false c true = refl
by_tests false true false = refl
by_tests false false false = refl

-- the relation of two sets is told by which of the three regions have an element
pub relation_of-by : (xs ys : List ℕ) → relation_of xs ys ≡ relation_by (not (is_subset xs ys)) (have_common xs ys) (not (is_subset ys xs))
relation_of-by xs ys = by_tests (is_subset xs ys) (have_common xs ys) (is_subset ys xs)

-- what is below the least of an ascending list is below all of it
pub all_above : (a c : ℕ) (ys : List ℕ) → a < c → list_all (λ y. nat_lt c y) ys ≡ true → list_all (λ y. nat_lt a y) ys ≡ true
all_above a c [] below h = refl
all_above a c (y ∷ ys) below h =
    let parts = and_parts (nat_lt c y) (list_all (λ y. nat_lt c y) ys) h in
    let more : c < y = ltb-true c y parts.0 in
    let less : a < y = omega arith in
    and_from (nat_lt a y) (list_all (λ y. nat_lt a y) ys) (lt-ltb a y less) (all_above a c ys below parts.1)

or_false : (b : Bool) → (b || false) ≡ b
or_false true = refl
or_false false = refl

pub or_true : (b : Bool) → (b || true) ≡ true
or_true true = refl
or_true false = refl

-- the regions of two sets, with what is known beforehand
unfoldable pub regions_by : (l b r : Bool) → List ℕ → List ℕ → Rel
regions_by l b r xs ys = relation_by (l || not (is_subset xs ys)) (b || have_common xs ys) (r || not (is_subset ys xs))

-- a least element of the left alone leaves the rest
pub left_least : (l b r : Bool) (a c : ℕ) (xs ys : List ℕ) → a < c → IsTrue (is_ascending (a ∷ xs)) → IsTrue (is_ascending (c ∷ ys)) →
    regions_by true b r xs (c ∷ ys) ≡ regions_by l b r (a ∷ xs) (c ∷ ys)
unfolding regions_by
left_least l b r a c xs ys below left right =
    let apart : (a == c) ≡ false = ne_eqb a c (λ e. omega arith) in
    let above : list_all (λ y. nat_lt a y) ys ≡ true = all_above a c ys below (and_parts _ (is_ascending ys) right).0 in
    let lacks : is_in a (c ∷ ys) ≡ false = or_from (a == c) (is_in a ys) apart (not_in_above a ys above) in
    rw (lacks, is_subset-lacking a (c ∷ ys) xs lacks) (rw or_true refl)

-- a least element of the right alone leaves the rest
pub right_least : (l b r : Bool) (a c : ℕ) (xs ys : List ℕ) → c < a → IsTrue (is_ascending (a ∷ xs)) → IsTrue (is_ascending (c ∷ ys)) →
    regions_by l b true (a ∷ xs) ys ≡ regions_by l b r (a ∷ xs) (c ∷ ys)
unfolding regions_by
right_least l b r a c xs ys below left right =
    let apart : (c == a) ≡ false = ne_eqb c a (λ e. omega arith) in
    let above : list_all (λ x. nat_lt c x) xs ≡ true = all_above c a xs below (and_parts _ (is_ascending xs) left).0 in
    let lacks : is_in c (a ∷ xs) ≡ false = or_from (c == a) (is_in c xs) apart (not_in_above c xs above) in
    rw (lacks, is_subset-lacking c (a ∷ xs) ys lacks, have_common-lacking c (a ∷ xs) ys lacks) (rw or_true refl)

-- a least element of both leaves the rest
pub both_least : (l b r : Bool) (a : ℕ) (xs ys : List ℕ) → IsTrue (is_ascending (a ∷ xs)) → IsTrue (is_ascending (a ∷ ys)) →
    regions_by l true r xs ys ≡ regions_by l b r (a ∷ xs) (a ∷ ys)
unfolding regions_by
both_least l b r a xs ys left right =
    let same : (a == a) ≡ true = eq-eqb a a refl in
    let left_lacks : is_in a xs ≡ false = not_in_above a xs (and_parts _ (is_ascending xs) left).0 in
    let right_lacks : is_in a ys ≡ false = not_in_above a ys (and_parts _ (is_ascending ys) right).0 in
    rw (same, is_subset-lacking a xs ys left_lacks, is_subset-lacking a ys xs right_lacks) (rw or_true refl)

-- an ascending list's rest is ascending
pub is_ascending-rest : (xs : List ℕ) (i : ℕ) → i < length xs → IsTrue (is_ascending (drop i xs)) → IsTrue (is_ascending (drop (i + 1) xs))
is_ascending-rest xs i within h =
    let split = drop_more xs i 0 within in
    let here : IsTrue (is_ascending (get_or xs i 0 ∷ drop (i + 1) xs)) = subst (λ rest. IsTrue (is_ascending rest)) split h in
    (and_parts _ (is_ascending (drop (i + 1) xs)) here).1

-- the ascending rest of a list, as its first number and what follows
pub at_rest : (xs : List ℕ) (i : ℕ) → i < length xs → IsTrue (is_ascending (drop i xs)) → IsTrue (is_ascending (get_or xs i 0 ∷ drop (i + 1) xs))
at_rest xs i within h = subst (λ rest. IsTrue (is_ascending rest)) (drop_more xs i 0 within) h

-- one step of the merge, where the least number is on the left alone
pub left_step : (l b r : Bool) (xs ys : List ℕ) (i j : ℕ) → i < length xs → j < length ys → get_or xs i 0 < get_or ys j 0 →
    IsTrue (is_ascending (drop i xs)) → IsTrue (is_ascending (drop j ys)) →
    regions_by true b r (drop (i + 1) xs) (drop j ys) ≡ regions_by l b r (drop i xs) (drop j ys)
left_step l b r xs ys i j in_x in_y below left right =
    rw (drop_more xs i 0 in_x, drop_more ys j 0 in_y)
    (left_least l b r (get_or xs i 0) (get_or ys j 0) (drop (i + 1) xs) (drop (j + 1) ys) below (at_rest xs i in_x left) (at_rest ys j in_y right))

-- where it is on the right alone
pub right_step : (l b r : Bool) (xs ys : List ℕ) (i j : ℕ) → i < length xs → j < length ys → get_or ys j 0 < get_or xs i 0 →
    IsTrue (is_ascending (drop i xs)) → IsTrue (is_ascending (drop j ys)) →
    regions_by l b true (drop i xs) (drop (j + 1) ys) ≡ regions_by l b r (drop i xs) (drop j ys)
right_step l b r xs ys i j in_x in_y below left right =
    rw (drop_more xs i 0 in_x, drop_more ys j 0 in_y)
    (right_least l b r (get_or xs i 0) (get_or ys j 0) (drop (i + 1) xs) (drop (j + 1) ys) below (at_rest xs i in_x left) (at_rest ys j in_y right))

-- where both have it
pub both_step : (l b r : Bool) (xs ys : List ℕ) (i j : ℕ) → i < length xs → j < length ys → get_or ys j 0 ≡ get_or xs i 0 →
    IsTrue (is_ascending (drop i xs)) → IsTrue (is_ascending (drop j ys)) →
    regions_by l true r (drop (i + 1) xs) (drop (j + 1) ys) ≡ regions_by l b r (drop i xs) (drop j ys)
both_step l b r xs ys i j in_x in_y same left right =
    let here : IsTrue (is_ascending (get_or xs i 0 ∷ drop (j + 1) ys)) = subst (λ y. IsTrue (is_ascending (y ∷ drop (j + 1) ys))) same (at_rest ys j in_y right) in
    rw (drop_more xs i 0 in_x, drop_more ys j 0 in_y, same)
    (both_least l b r (get_or xs i 0) (drop (i + 1) xs) (drop (j + 1) ys) (at_rest xs i in_x left) here)

-- once one of the lists is at its end, what is left of the other is in one region
left_end : (l b r : Bool) (ys : List ℕ) (n : ℕ) → n ≡ length ys → relation_by (l || false) b (r || nat_lt 0 n) ≡ regions_by l b r [] ys
unfolding regions_by
left_end l b r [] n e = rw e (simp or_false)
left_end l b r (y ∷ ys) n e = rw (e, lt-ltb 0 (length (y ∷ ys)) (omega arith)) (simp (or_false, or_true))

right_end : (l b r : Bool) (xs : List ℕ) (n : ℕ) → n ≡ length xs → relation_by (l || nat_lt 0 n) b (r || false) ≡ regions_by l b r xs []
unfolding regions_by
right_end l b r [] n e = rw e (simp or_false)
right_end l b r (x ∷ xs) n e = rw (e, lt-ltb 0 (length (x ∷ xs)) (omega arith)) (simp (or_false, or_true, have_common-nil xs))

-- a place is below a list's end where the list has a rest there
lt-of_rest : (i : ℕ) (xs : List ℕ) → nat_lt i (length xs) ≡ nat_lt 0 (length (drop i xs))
lt-of_rest i xs =
    let e = length-drop i xs in
    elim (cases_lt i (length xs)) [
      | inl below ↦ let more : 0 < length (drop i xs) = omega (arith, e) in lt-ltb i (length xs) below ∙ sym (lt-ltb 0 (length (drop i xs)) more)
      | inr above ↦ let less : length (drop i xs) ≤ 0 = omega (arith, e) in le-ltb i (length xs) above ∙ sym (le-ltb 0 (length (drop i xs)) less)
    ]

-- what the merge knows at its end
pub merge_end : (l b r : Bool) (xs ys : List ℕ) (i j : ℕ) → (length xs ≤ i) ⊎ (length ys ≤ j) → i ≤ length xs → j ≤ length ys →
    relation_by (l || nat_lt i (length xs)) b (r || nat_lt j (length ys)) ≡ regions_by l b r (drop i xs) (drop j ys)
merge_end l b r xs ys i j (inl done) in_x in_y =
    let none = le-ltb i (length xs) done in
    let rest = lt-of_rest j ys in
    rw (drop_all i xs done, none, rest) (left_end l b r (drop j ys) (length (drop j ys)) refl)
merge_end l b r xs ys i j (inr done) in_x in_y =
    let none = le-ltb j (length ys) done in
    let rest = lt-of_rest i xs in
    rw (drop_all j ys done, none, rest) (right_end l b r (drop i xs) (length (drop i xs)) refl)

-- at its start
pub merge_start : (xs ys : List ℕ) → regions_by false false false xs ys ≡ relation_of xs ys
unfolding regions_by
merge_start xs ys = sym (relation_of-by xs ys)

-- and where each region has an element
pub all_seen : (xs ys : List ℕ) → regions_by true true true xs ys ≡ Overlaps
unfolding regions_by
all_seen xs ys = refl
