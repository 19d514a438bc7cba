-- Membership in a list by recursion, and its laws over tests, maps, filters, joins and ranges.
use Rattle.std.proofs.Common.{◌≡◌, ℕ, zero, suc, ◌+◌, ◌<◌, ◌≤◌, Bool, true, false, cond, List, [], ◌∷◌, ◌++◌, map, length, get_or, ◌⊎◌, inl, inr, refl, sym, ap, ◌∙◌, subst, arith}
use Rattle.std.specs.Prelude.{Option, Some, None, filter, filter_map, flat_map, Contains}
use Rattle.std.specs.List.{list_all, list_any, range_with_len, cons_option}
use Rattle.std.proofs.lemmas.Bool.{and_parts, and_from, or_cases, or_left, or_right, false≢true, cases_eq}

-- x is one of the list
pub data In {X : Type 0} (x : X) : List X → Type 0 where
  here : {y : X} {ys : List X} → x ≡ y → In x (y ∷ ys)
  there : {y : X} {ys : List X} → In x ys → In x (y ∷ ys)

pub none_in : {X : Type 0} {x : X} → In x [] → ⊥
none_in h = elim h [ ]

-- what holds of all holds of each
pub all_at : {X : Type 0} (test : X → Bool) {x : X} {xs : List X} → list_all test xs ≡ true → In x xs → test x ≡ true
all_at test h (here {y} {ys} e) = ap test e ∙ (and_parts (test y) (list_all test ys) h).0
all_at test h (there {y} {ys} i) = all_at test (and_parts (test y) (list_all test ys) h).1 i

-- what holds of each holds of all
pub all_from : {X : Type 0} (test : X → Bool) (xs : List X) → ((x : X) → In x xs → test x ≡ true) → list_all test xs ≡ true
all_from test [] each = refl
all_from test (y ∷ ys) each =
    and_from (test y) (list_all test ys) (each y (here refl)) (all_from test ys (λ x i. each x (there i)))

-- one of a list that passes a test
pub record Found {X : Type 0} (test : X → Bool) (xs : List X) : Type 0 where
  pub item : X
  pub member : In item xs
  pub passes : test item ≡ true

pub any_at : {X : Type 0} (test : X → Bool) (xs : List X) → list_any test xs ≡ true → Found test xs
any_at test [] h = absurd (false≢true h)
any_at {X} test (y ∷ ys) h = elim (or_cases (test y) (list_any test ys) h) [
  | inl now ↦ record { item = y; member = here refl; passes = now }
  | inr later ↦ let f : Found test ys = any_at test ys later in record { item = f.item; member = there f.member; passes = f.passes }
]

pub any_from : {X : Type 0} (test : X → Bool) {x : X} {xs : List X} → In x xs → test x ≡ true → list_any test xs ≡ true
any_from test (here {y} {ys} e) h = or_left (test y) (list_any test ys) (sym (ap test e) ∙ h)
any_from test (there {y} {ys} i) h = or_right (test y) (list_any test ys) (any_from test i h)

-- the images of a list
pub In-map : {X Y : Type 0} (f : X → Y) {x : X} {xs : List X} → In x xs → In (f x) (map f xs)
In-map f (here e) = here (ap f e)
In-map f (there i) = there (In-map f i)

-- where an image comes from
pub record IsImage {X Y : Type 0} (f : X → Y) (y : Y) (xs : List X) : Type 0 where
  pub source : X
  pub member : In source xs
  pub is : y ≡ f source

pub from_map : {X Y : Type 0} (f : X → Y) {y : Y} (xs : List X) → In y (map f xs) → IsImage f y xs
from_map f [] h = elim h [ ]
from_map f (x ∷ xs) (here e) = record { source = x; member = here refl; is = e }
from_map f {y} (x ∷ xs) (there i) =
    let r : IsImage f y xs = from_map f xs i in record { source = r.source; member = there r.member; is = r.is }

-- those that pass a test
pub In-filter : {X : Type 0} (test : X → Bool) {x : X} {xs : List X} → In x xs → test x ≡ true → In x (filter test xs)
In-filter test (here {y} {ys} e) h =
    let now : test y ≡ true = sym (ap test e) ∙ h in rw now (here e)
In-filter test {x} (there {y} {ys} i) h =
    kept (test y) (In-filter test i h)
  where
    kept : (b : Bool) → In x (filter test ys) → In x (cond b (y ∷ filter test ys) (filter test ys))
    kept true j = there j
    kept false j = j

pub from_filter : {X : Type 0} (test : X → Bool) {x : X} (xs : List X) → In x (filter test xs) → In x xs × (test x ≡ true)
from_filter test [] h = elim h [ ]
from_filter test {x} (y ∷ ys) h = split (test y) refl (λ j. from_filter test ys j) h
  where
    split : (b : Bool) → test y ≡ b → (In x (filter test ys) → In x ys × (test x ≡ true)) →
        In x (cond b (y ∷ filter test ys) (filter test ys)) → In x (y ∷ ys) × (test x ≡ true)
    split true now rest (here e) = (here e, ap test e ∙ now)
    split true now rest (there j) = (there (rest j).0, (rest j).1)
    split false now rest j = (there (rest j).0, (rest j).1)

-- two lists, one after the other
pub In-left : {X : Type 0} {x : X} {xs : List X} (ys : List X) → In x xs → In x (xs ++ ys)
In-left ys (here e) = here e
In-left ys (there i) = there (In-left ys i)

pub In-right : {X : Type 0} {x : X} (xs : List X) {ys : List X} → In x ys → In x (xs ++ ys)
In-right [] i = i
In-right (z ∷ xs) i = there (In-right xs i)

pub from_append : {X : Type 0} {x : X} (xs : List X) {ys : List X} → In x (xs ++ ys) → In x xs ⊎ In x ys
from_append [] i = inr i
from_append (z ∷ xs) (here e) = inl (here e)
from_append {x} (z ∷ xs) {ys} (there i) = elim (from_append xs i) [ inl l ↦ inl (there l) | inr r ↦ inr r ]

-- a list for each
pub In-flat_map : {X Y : Type 0} (f : X → List Y) {x : X} {y : Y} {xs : List X} → In x xs → In y (f x) → In y (flat_map f xs)
In-flat_map f {y} (here {y = z} {ys = zs} e) j = In-left (flat_map f zs) (subst (λ w. In y (f w)) e j)
In-flat_map f (there {y = z} i) j = In-right (f z) (In-flat_map f i j)

-- which of the lists has it
pub record IsOf {X Y : Type 0} (f : X → List Y) (y : Y) (xs : List X) : Type 0 where
  pub source : X
  pub member : In source xs
  pub has : In y (f source)

pub from_flat_map : {X Y : Type 0} (f : X → List Y) {y : Y} (xs : List X) → In y (flat_map f xs) → IsOf f y xs
from_flat_map f [] h = elim h [ ]
from_flat_map f {y} (x ∷ xs) h = elim (from_append (f x) h) [
  | inl l ↦ record { source = x; member = here refl; has = l }
  | inr r ↦ let s : IsOf f y xs = from_flat_map f xs r in record { source = s.source; member = there s.member; has = s.has }
]

-- what a partial function gives
pub In-filter_map : {X Y : Type 0} (f : X → Option Y) {x : X} {y : Y} {xs : List X} → In x xs → f x ≡ Some y → In y (filter_map f xs)
In-filter_map f {y} (here {y = z} e) h = let now : f z ≡ Some y = sym (ap f e) ∙ h in rw now (here refl)
In-filter_map {Y} f {y} (there {y = z} {ys = zs} i) h = kept (f z) (In-filter_map f i h)
  where
    kept : (o : Option Y) → In y (filter_map f zs) → In y (cons_option o (filter_map f zs))
    kept None j = j
    kept (Some w) j = there j

pub record IsGiven {X Y : Type 0} (f : X → Option Y) (y : Y) (xs : List X) : Type 0 where
  pub source : X
  pub member : In source xs
  pub is : f source ≡ Some y

pub from_filter_map : {X Y : Type 0} (f : X → Option Y) {y : Y} (xs : List X) → In y (filter_map f xs) → IsGiven f y xs
from_filter_map f [] h = elim h [ ]
from_filter_map {X} {Y} f {y} (x ∷ xs) h = split (f x) refl (λ j. later (from_filter_map f xs j)) h
  where
    later : IsGiven f y xs → IsGiven f y (x ∷ xs)
    later s = record { source = s.source; member = there s.member; is = s.is }

    split : (o : Option Y) → f x ≡ o → (In y (filter_map f xs) → IsGiven f y (x ∷ xs)) → In y (cons_option o (filter_map f xs)) → IsGiven f y (x ∷ xs)
    split None e rest j = rest j
    split (Some w) e rest (here same) = record { source = x; member = here refl; is = e ∙ ap (λ v. Some v) (sym same) }
    split (Some w) e rest (there j) = rest j

-- the numbers of a range
pub In-range : (a n x : ℕ) → a ≤ x → x < a + n → In x (range_with_len a n)
In-range a zero x low high = absurd (omega arith)
In-range a (suc n) x low high = elim (cases_eq x a) [
  | inl same ↦ here same
  | inr apart ↦ there (In-range (a + 1) n x (omega arith) (omega arith))
]

pub from_range : (a n : ℕ) {x : ℕ} → In x (range_with_len a n) → (a ≤ x) × (x < a + n)
from_range a zero i = elim i [ ]
from_range a (suc n) {x} (here e) = (omega arith, omega arith)
from_range a (suc n) {x} (there i) =
    let r : (a + 1 ≤ x) × (x < (a + 1) + n) = from_range (a + 1) n i in (omega (arith, r), omega (arith, r))

-- what stands at a place
pub In-get_or : {X : Type 0} (xs : List X) (k : ℕ) (d : X) → k < length xs → In (get_or xs k d) xs
In-get_or [] k d h = absurd (omega arith)
In-get_or (x ∷ xs) zero d h = here refl
In-get_or (x ∷ xs) (suc k) d h = there (In-get_or xs k d (omega arith))

-- where one of a list stands
pub record IsPlaced {X : Type 0} (x : X) (xs : List X) : Type 0 where
  pub place : ℕ
  pub within : place < length xs
  pub is : (d : X) → get_or xs place d ≡ x

pub place_of : {X : Type 0} {x : X} {xs : List X} → In x xs → IsPlaced x xs
place_of (here e) = record { place = 0; within = omega arith; is = λ d. sym e }
place_of {x} (there {ys} i) =
    let r : IsPlaced x ys = place_of i in record { place = suc r.place; within = omega (arith, r.within); is = r.is }

-- between this membership and the one by index
pub in_from_contains : {X : Type 0} {x : X} (xs : List X) → Contains xs x → In x xs
in_from_contains {X} {x} xs c = subst (λ y. In y xs) c.2 (In-get_or xs c.0 x c.1)

pub contains_from_in : {X : Type 0} {x : X} {xs : List X} → In x xs → Contains xs x
contains_from_in {X} {x} {xs} i = let r : IsPlaced x xs = place_of i in (r.place, r.within, r.is x)
