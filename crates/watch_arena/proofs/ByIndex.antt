-- Tests of the elements of a list, by index.
use Rattle.std.proofs.Common.{◌≡◌, ◌∙◌, ◌⊎◌, ℕ, zero, suc, ◌+◌, ◌<◌, Bool, true, false, not, cond, List, [], ◌∷◌, length, get_or, Some, None, refl, sym, ap, arith, inl, inr}
use Rattle.std.specs.Prelude.{◌||◌, ◌&&◌}
use Rattle.std.specs.List.{list_any, list_all, position_from}
use Rattle.std.proofs.lemmas.Bool.{false≢true}

-- a Bool is one of two
pub cases_bool : (b : Bool) → (b ≡ true) ⊎ (b ≡ false)
cases_bool true = inl refl
cases_bool false = inr refl

-- an or that holds
pub or_cases : (a b : Bool) → (a || b) ≡ true → (a ≡ true) ⊎ (b ≡ true)
or_cases true b h = inl refl
or_cases false b h = inr h

pub or_left : (a b : Bool) → a ≡ true → (a || b) ≡ true
or_left true b h = refl
or_left false b h = absurd (false≢true h)

pub or_right : (a b : Bool) → b ≡ true → (a || b) ≡ true
or_right true b h = refl
or_right false b h = h

-- an or that does not
pub or_false : (a b : Bool) → (a || b) ≡ false → (a ≡ false) × (b ≡ false)
or_false true b h = absurd (false≢true (sym h))
or_false false b h = (refl, h)

-- an and that holds
pub and_both : (a b : Bool) → (a && b) ≡ true → (a ≡ true) × (b ≡ true)
and_both true b h = (refl, h)
and_both false b h = absurd (false≢true h)

pub and_from : (a b : Bool) → a ≡ true → b ≡ true → (a && b) ≡ true
and_from true b h k = k
and_from false b h k = absurd (false≢true h)

-- a not that holds
pub not_true : (a : Bool) → not a ≡ true → a ≡ false
not_true true h = absurd (false≢true h)
not_true false h = refl

-- some element passes
pub list_any_at : {X : Type 0} (test : X → Bool) → (xs : List X) (k : ℕ) (d : X) → k < length xs → test (get_or xs k d) ≡ true → list_any test xs ≡ true
list_any_at test [] k d lt h = absurd (omega arith)
list_any_at test (x ∷ xs) zero d lt h = or_left (test x) (list_any test xs) h
list_any_at test (x ∷ xs) (suc k) d lt h = or_right (test x) (list_any test xs) (list_any_at test xs k d (omega arith) h)

pub list_any_index : {X : Type 0} (test : X → Bool) → (xs : List X) (d : X) → list_any test xs ≡ true → (k : ℕ) × (k < length xs) × (test (get_or xs k d) ≡ true)
list_any_index test [] d h = absurd (false≢true h)
list_any_index test (x ∷ xs) d h =
    elim (or_cases (test x) (list_any test xs) h) [
      | inl here ↦ (0, omega arith, here)
      | inr there ↦ let rest = list_any_index test xs d there in let lt = rest.1 in (suc rest.0, omega arith, rest.2)
    ]

-- all elements pass
pub list_all_at : {X : Type 0} (test : X → Bool) → (xs : List X) (k : ℕ) (d : X) → list_all test xs ≡ true → k < length xs → test (get_or xs k d) ≡ true
list_all_at test [] k d h lt = absurd (omega arith)
list_all_at test (x ∷ xs) zero d h lt = (and_both (test x) (list_all test xs) h).0
list_all_at test (x ∷ xs) (suc k) d h lt = list_all_at test xs k d (and_both (test x) (list_all test xs) h).1 (omega arith)

pub list_all_from : {X : Type 0} (test : X → Bool) → (xs : List X) (d : X) → ((k : ℕ) → k < length xs → test (get_or xs k d) ≡ true) → list_all test xs ≡ true
list_all_from test [] d all = refl
list_all_from test (x ∷ xs) d all = and_from (test x) (list_all test xs) (all 0 (omega arith)) (list_all_from test xs d (λ k lt. all (suc k) (omega arith)))

-- the first place that passes
pub position_is : {X : Type 0} (test : X → Bool) → (xs : List X) (from k : ℕ) (d : X) → k < length xs → test (get_or xs k d) ≡ true → ((j : ℕ) → j < k → test (get_or xs j d) ≡ false) → position_from test from xs ≡ Some (from + k)
position_is test [] from k d lt here before = absurd (omega arith)
position_is test (x ∷ xs) from zero d lt here before =
    ap (λ (b : Bool). cond b (Some from) (position_from test (from + 1) xs)) here ∙ ap Some (let z : from ≡ from + 0 = omega arith in z)
position_is test (x ∷ xs) from (suc k) d lt here before =
    ap (λ (b : Bool). cond b (Some from) (position_from test (from + 1) xs)) (before 0 (omega arith))
    ∙ position_is test xs (from + 1) k d (omega arith) here (λ j below. before (suc j) (omega arith))
    ∙ ap Some (let z : (from + 1) + k ≡ from + suc k = omega arith in z)

-- none passes
pub position_none : {X : Type 0} (test : X → Bool) → (xs : List X) (from : ℕ) (d : X) → ((j : ℕ) → j < length xs → test (get_or xs j d) ≡ false) → position_from test from xs ≡ None
position_none test [] from d none = refl
position_none test (x ∷ xs) from d none =
    ap (λ (b : Bool). cond b (Some from) (position_from test (from + 1) xs)) (none 0 (omega arith))
    ∙ position_none test xs (from + 1) d (λ j below. none (suc j) (omega arith))
