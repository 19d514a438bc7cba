-- The room falls with each step forward.
use Rattle.std.proofs.Common.{◌≡◌, ℕ, ◌<◌, ◌≤◌, ◌+◌, ◌-◌, ◌*◌, zero, suc, inl, inr, List, [], ◌∷◌, ◌++◌, length, length-append, append-nil, sym, ap, ◌∙◌, arith}
use Rattle.std.specs.Prelude.{IsTrue, ◌^◌}
use Rattle.std.proofs.lemmas.Bool.{true≢false}
use Rattle.std.proofs.Math.Nat.{pow-succ'}
use Rattle.rcc5_core.specs.declared.Rel.{Rel}
use Rattle.rcc5_core.specs.declared.Rel.TheVariants.{Equals, Includes, IncludedIn, Overlaps, Disjoint}
use Rattle.rcc5_core.specs.Relation.{rank_of}
use Rattle.world_model.specs.Listing.{is_below}
use Rattle.world_model.proofs.OrderPositions.{first_or_rest, below_itself, below_longer}
use Rattle.world_walk.specs.Ahead.{room}

-- a power is positive
powers : (n : ℕ) → 1 ≤ 6 ^ n
powers zero = omega arith
powers (suc n) = let h = powers n in omega arith

upto_four : (r : Rel) (k : ℕ) → (4 - rank_of r) * k ≤ 4 * k
upto_four Equals k = omega arith
upto_four Includes k = omega arith
upto_four IncludedIn k = omega arith
upto_four Overlaps k = omega arith
upto_four Disjoint k = omega arith

-- a later relation leaves less
one_less : (r s : Rel) (k : ℕ) → rank_of r < rank_of s → (4 - rank_of s) * k + k ≤ (4 - rank_of r) * k
one_less Equals Equals k h = absurd (omega arith)
one_less Equals Includes k h = omega arith
one_less Equals IncludedIn k h = omega arith
one_less Equals Overlaps k h = omega arith
one_less Equals Disjoint k h = omega arith
one_less Includes Equals k h = absurd (omega arith)
one_less Includes Includes k h = absurd (omega arith)
one_less Includes IncludedIn k h = omega arith
one_less Includes Overlaps k h = omega arith
one_less Includes Disjoint k h = omega arith
one_less IncludedIn Equals k h = absurd (omega arith)
one_less IncludedIn Includes k h = absurd (omega arith)
one_less IncludedIn IncludedIn k h = absurd (omega arith)
one_less IncludedIn Overlaps k h = omega arith
one_less IncludedIn Disjoint k h = omega arith
one_less Overlaps Equals k h = absurd (omega arith)
one_less Overlaps Includes k h = absurd (omega arith)
one_less Overlaps IncludedIn k h = absurd (omega arith)
one_less Overlaps Overlaps k h = absurd (omega arith)
one_less Overlaps Disjoint k h = omega arith
one_less Disjoint Equals k h = absurd (omega arith)
one_less Disjoint Includes k h = absurd (omega arith)
one_less Disjoint IncludedIn k h = absurd (omega arith)
one_less Disjoint Overlaps k h = absurd (omega arith)
one_less Disjoint Disjoint k h = absurd (omega arith)

room_most : (n : ℕ) (m : List Rel) → length m ≤ n → room n m ≤ 6 ^ n
room_most n [] h = omega arith
room_most zero (r ∷ m) h = absurd (omega arith)
room_most (suc n) (r ∷ m) h =
    let below = room_most n m (omega arith) in
    let four = upto_four r (6 ^ n) in
    omega arith

pub room_some : (n : ℕ) (m : List Rel) → length m ≤ n → 1 ≤ room n m
room_some n [] h = let p = powers n in omega arith
room_some zero (r ∷ m) h = absurd (omega arith)
room_some (suc n) (r ∷ m) h = let below = room_some n m (omega arith) in omega arith

pub room_falls : (n : ℕ) (a b : List Rel) → length a ≤ n → length b ≤ n → IsTrue (is_below a b) → room n b < room n a
room_falls n [] [] h k less = absurd (true≢false (sym less ∙ below_itself []))
room_falls n (r ∷ a) [] h k less = absurd (true≢false (sym less))
room_falls zero [] (s ∷ b) h k less = absurd (omega arith)
room_falls (suc n) [] (s ∷ b) h k less =
    let most = room_most n b (omega arith) in
    let four = upto_four s (6 ^ n) in
    let p = powers n in
    let whole : room (suc n) [] ≡ 6 * 6 ^ n = pow-succ' 6 n in
    omega (arith, whole, most, four, p)
room_falls zero (r ∷ a) (s ∷ b) h k less = absurd (omega arith)
room_falls (suc n) (r ∷ a) (s ∷ b) h k less = elim (first_or_rest r s a b less) [
  | inl first ↦
      let most = room_most n b (omega arith) in
      let some = room_some n a (omega arith) in
      let one = one_less r s (6 ^ n) first in
      omega arith
  | inr rest ↦
      let below = room_falls n a b (omega arith) (omega arith) rest.1 in
      let same : (4 - rank_of r) * 6 ^ n ≡ (4 - rank_of s) * 6 ^ n = ap (λ k. (4 - k) * 6 ^ n) rest.0 in
      omega arith
]

-- no more is left behind a path that goes on
pub room_upto : (n : ℕ) (m on : List Rel) → length (m ++ on) ≤ n → room n (m ++ on) ≤ room n m
room_upto n m [] upto = let same : room n (m ++ []) ≡ room n m = ap (room n) (append-nil m) in omega arith
room_upto n m (r ∷ on) upto =
    let long = length-append m (r ∷ on) in
    let less = room_falls n m (m ++ r ∷ on) (omega arith) upto (below_longer m r on) in
    omega arith
