-- Numbers of the items of a heap.
use Rattle.std.proofs.Common.{◌≡◌, ℕ, ◌≤◌, ◌⊎◌, inl, inr, true, false, List, [], ◌∷◌, map, refl, sym, ◌∙◌, arith}
use Rattle.std.specs.Prelude.{Contains}
use Rattle.std.specs.Ordering.{nat_cmp, is_lt}
use Rattle.std.specs.BinaryHeap.{IsUpperBound}
use Rattle.std.specs.List.Sorted.{IsPermutation}
use Rattle.std.proofs.lemmas.Bool.{cases_lt, lt-ltb, true≢false}
use Rattle.std.proofs.lemmas.List.Sorted.{IsPermutation-map, Contains-permutation}
use Rattle.world_model.proofs.Members.{In, here, there, none_in, in_from_contains, contains_from_in}

numbers_stay : {X : Type 0} (f : X → ℕ) (xs ys : List X) (n : ℕ) → IsPermutation xs ys → Contains (map f xs) n → Contains (map f ys) n
numbers_stay f xs ys n moved h = Contains-permutation (map f xs) (map f ys) n (IsPermutation-map f xs ys moved) h

pub pushed_there : {X : Type 0} (f : X → ℕ) (x : X) (xs ys : List X) → IsPermutation (x ∷ xs) ys → Contains (map f ys) (f x)
pushed_there f x xs ys moved = numbers_stay f (x ∷ xs) ys (f x) moved (contains_from_in (here refl))

pub pushed_stay : {X : Type 0} (f : X → ℕ) (x : X) (xs ys : List X) (n : ℕ) → IsPermutation (x ∷ xs) ys → Contains (map f xs) n → Contains (map f ys) n
pushed_stay f x xs ys n moved h = numbers_stay f (x ∷ xs) ys n moved (contains_from_in (there (in_from_contains (map f xs) h)))

split_first : (x n : ℕ) (xs : List ℕ) → In n (x ∷ xs) → (n ≡ x) ⊎ In n xs
split_first x n xs (here e) = inl e
split_first x n xs (there i) = inr i

pub popped_stay : {X : Type 0} (f : X → ℕ) (x : X) (xs ys : List X) (n : ℕ) → IsPermutation xs (x ∷ ys) → Contains (map f xs) n → (n ≡ f x) ⊎ Contains (map f ys) n
popped_stay f x xs ys n moved h = elim (split_first (f x) n (map f ys) (in_from_contains (map f (x ∷ ys)) (numbers_stay f xs (x ∷ ys) n moved h))) [
  | inl same ↦ inl same
  | inr rest ↦ inr (contains_from_in rest)
]

not_below : (a b : ℕ) → is_lt (nat_cmp a b) ≡ false → b ≤ a
not_below a b h = elim (cases_lt a b) [
  | inl below ↦ let less : is_lt (nat_cmp a b) ≡ true = rw (lt-ltb a b below) refl in absurd (true≢false (sym less ∙ h))
  | inr above ↦ above
]

least_in : {X : Type 0} (f : X → ℕ) (x : X) (xs : List X) (n : ℕ) → IsUpperBound (λ a b. nat_cmp (f b) (f a)) x xs → In n (map f xs) → f x ≤ n
least_in f x [] n bound i = absurd (none_in i)
least_in f x (y ∷ ys) n bound (here e) = let low : f x ≤ f y = not_below (f y) (f x) bound.0 in omega (arith, low, e)
least_in f x (y ∷ ys) n bound (there i) = least_in f x ys n bound.1 i

pub popped_least : {X : Type 0} (f : X → ℕ) (x : X) (xs : List X) (n : ℕ) → IsUpperBound (λ a b. nat_cmp (f b) (f a)) x xs → Contains (map f xs) n → f x ≤ n
popped_least f x xs n bound h = least_in f x xs n bound (in_from_contains (map f xs) h)
