-- How many nodes there are at most: each position of at most n relations has a number, which rises with the order.
use Rattle.std.proofs.Common.{◌≡◌, ℕ, zero, suc, ◌+◌, ◌*◌, ◌^◌, ◌<◌, ◌≤◌, inl, inr, List, [], ◌∷◌, length, refl, sym, ap, true≢false, arith, IsTrue, mul-le-mul_right}
use Rattle.std.proofs.Math.Nat.{pow-succ'}
use Rattle.std.proofs.lemmas.List.Elements.{All-contains}
use Rattle.rcc5_core.specs.declared.Rel.{Rel}
use Rattle.rcc5_core.specs.declared.Rel.TheVariants.{Equals, Includes, IncludedIn, Overlaps, Disjoint}
use Rattle.rcc5_core.specs.Relation.{rank_of}
use Rattle.world_model.specs.Problem.{pair_count}
use Rattle.world_model.specs.Listing.{is_below, ascends}
use Rattle.world_model.specs.Node.{IsNode}
use Rattle.world_model.specs.Laws.{NodesAreBounded}
use Rattle.world_model.proofs.Members.{In, here, there, contains_from_in}
use Rattle.world_model.proofs.OrderPositions.{first_or_rest}
use Rattle.world_model.proofs.OrderLists.{ascends_first, ascends_rest}
use Rattle.world_model.proofs.Nodes.{node_within}

-- how many positions of at most n relations there are
abbrev count_upto : ℕ → ℕ
count_upto zero = 1
count_upto (suc n) = 1 + 5 * count_upto n

-- a position's place among them, in order
abbrev number : ℕ → List Rel → ℕ
number n [] = 0
number zero (r ∷ m) = 0
number (suc n) (r ∷ m) = 1 + (rank_of r * count_upto n + number n m)

rank_within : (r : Rel) → rank_of r ≤ 4
rank_within Equals = omega arith
rank_within Includes = omega arith
rank_within IncludedIn = omega arith
rank_within Overlaps = omega arith
rank_within Disjoint = omega arith

first_within : (n : ℕ) → 0 < count_upto n
first_within zero = omega arith
first_within (suc n) = omega arith

number_within : (n : ℕ) (m : List Rel) → length m ≤ n → number n m < count_upto n
number_within n [] h = first_within n
number_within zero (r ∷ m) h = absurd (omega arith)
number_within (suc n) (r ∷ m) h =
    let rest : number n m < count_upto n = number_within n m (omega arith) in
    let first : rank_of r * count_upto n ≤ 4 * count_upto n = mul-le-mul_right (count_upto n) (rank_within r) in
    omega arith

number_rises : (n : ℕ) (a b : List Rel) → length a ≤ n → length b ≤ n → IsTrue (is_below a b) → number n a < number n b
number_rises n [] [] h k less = absurd (true≢false (sym less))
number_rises zero [] (s ∷ b) h k less = absurd (omega arith)
number_rises (suc n) [] (s ∷ b) h k less = omega arith
number_rises n (r ∷ a) [] h k less = absurd (true≢false (sym less))
number_rises zero (r ∷ a) (s ∷ b) h k less = absurd (omega arith)
number_rises (suc n) (r ∷ a) (s ∷ b) h k less = elim (first_or_rest r s a b less) [
  | inl first ↦
      let within : number n a < count_upto n = number_within n a (omega arith) in
      let more : suc (rank_of r) * count_upto n ≤ rank_of s * count_upto n = mul-le-mul_right (count_upto n) first in
      omega arith
  | inr both ↦
      let rest : number n a < number n b = number_rises n a b (omega arith) (omega arith) both.1 in
      let same : rank_of r * count_upto n ≡ rank_of s * count_upto n = ap (λ k. k * count_upto n) both.0 in
      omega arith
]

-- as the sum of the powers of five
count_upto-power : (n : ℕ) → 4 * count_upto n + 1 ≡ 5 ^ (n + 1)
count_upto-power zero = refl
count_upto-power (suc n) =
    let before : 4 * count_upto n + 1 ≡ 5 ^ (n + 1) = count_upto-power n in
    let more : 5 ^ suc (n + 1) ≡ 5 * 5 ^ (n + 1) = pow-succ' 5 (n + 1) in
    let same : 5 ^ (suc n + 1) ≡ 5 ^ suc (n + 1) = ap (λ k. 5 ^ k) (omega arith) in
    omega arith

-- an ascending list has no more positions than are left from its first on
ascending_within : (n : ℕ) (t : List Rel) (ts : List (List Rel)) → IsTrue (ascends (t ∷ ts)) → ((x : List Rel) → In x (t ∷ ts) → length x ≤ n) →
    number n t + length (t ∷ ts) ≤ count_upto n
ascending_within n t [] h short =
    let within : number n t < count_upto n = number_within n t (short t (here refl)) in
    omega arith
ascending_within n t (s ∷ ts) h short =
    let rest : number n s + length (s ∷ ts) ≤ count_upto n = ascending_within n s ts (ascends_rest t (s ∷ ts) h) (λ x i. short x (there i)) in
    let less : number n t < number n s = number_rises n t s (short t (here refl)) (short s (there (here refl))) (ascends_first t (s ∷ ts) h (here refl)) in
    omega arith

list_within : (n : ℕ) (ts : List (List Rel)) → IsTrue (ascends ts) → ((x : List Rel) → In x ts → length x ≤ n) → length ts ≤ count_upto n
list_within n [] h short = omega arith
list_within n (t ∷ ts) h short = let within = ascending_within n t ts h short in omega arith

pub nodes_are_bounded_law : NodesAreBounded
nodes_are_bounded_law p nodes h all =
    let within : length nodes ≤ count_upto (pair_count p) =
    list_within (pair_count p) nodes h (λ x i. node_within p x (All-contains (IsNode p) nodes x all (contains_from_in i))) in
    let power = count_upto-power (pair_count p) in
    omega arith
