-- A number that falls from node to node of a tree: more than the positions that are left.
use Rattle.std.proofs.Common.{◌≡◌, ℕ, zero, suc, ◌+◌, ◌*◌, ◌-◌, ◌<◌, ◌≤◌, true, List, [], ◌∷◌, length, inl, inr, ap, arith, mul-le-mul_right}
use Rattle.rcc5_core.specs.declared.Rel.{Rel}
use Rattle.rcc5_core.specs.declared.Rel.TheVariants.{Equals, Includes, IncludedIn, Overlaps, Disjoint}
use Rattle.rcc5_core.specs.Relation.{rank_of}
use Rattle.world_model.specs.Listing.{is_below}
use Rattle.world_model.proofs.OrderPositions.{first_or_rest}
use Rattle.cert_rules.proofs.Nexts.{below_nothing}

-- so many relations come after one
abbrev later : Rel → ℕ
later rel = 4 - rank_of rel

-- a bound on the positions of at most so many relations
abbrev room : ℕ → ℕ
room zero = 1
room (suc depth) = 6 * room depth

-- a bound on those from one position on
abbrev pub left : ℕ → List Rel → ℕ
left depth [] = room depth
left zero (rel ∷ m) = 1
left (suc depth) (rel ∷ m) = later rel * room depth + left depth m

rank_small : (rel : Rel) → rank_of rel ≤ 4
rank_small Equals = omega arith
rank_small Includes = omega arith
rank_small IncludedIn = omega arith
rank_small Overlaps = omega arith
rank_small Disjoint = omega arith

some_room : (depth : ℕ) → 1 ≤ room depth
some_room zero = omega arith
some_room (suc depth) = let some = some_room depth in omega arith

later_room : (rel : Rel) (x : ℕ) → later rel * x ≤ 4 * x
later_room rel x = let small : later rel ≤ 4 = omega arith in mul-le-mul_right x small

left_some : (depth : ℕ) (m : List Rel) → 1 ≤ left depth m
left_some depth [] = some_room depth
left_some zero (rel ∷ m) = omega arith
left_some (suc depth) (rel ∷ m) = let some = left_some depth m in omega (arith, some)

left_within : (depth : ℕ) (m : List Rel) → length m ≤ depth → left depth m ≤ room depth
left_within depth [] short = omega arith
left_within zero (rel ∷ m) short = omega arith
left_within (suc depth) (rel ∷ m) short =
    let rest = left_within depth m (omega arith) in
    let few = later_room rel (room depth) in
    omega (arith, rest, few)

-- a later relation has fewer behind it
later_less : (r s : Rel) (x : ℕ) → rank_of r < rank_of s → later s * x + x ≤ later r * x
later_less r s x less =
    let small = rank_small s in
    let fewer : later s + 1 ≤ later r = omega (arith, less, small) in
    let times : (later s + 1) * x ≤ later r * x = mul-le-mul_right x fewer in
    omega (arith, times)

pub falls : (depth : ℕ) (m n : List Rel) → length m ≤ depth → length n ≤ depth → is_below m n ≡ true → left depth n < left depth m
falls depth m [] short within below = absurd (below_nothing m below)
falls zero m (s ∷ n) short within below = absurd (omega arith)
falls (suc depth) [] (s ∷ n) short within below =
    let rest = left_within depth n (omega arith) in
    let few = later_room s (room depth) in
    let some = some_room depth in
    omega (arith, rest, few, some)
falls (suc depth) (r ∷ m) (s ∷ n) short within below = elim (first_or_rest r s m n below) [
  | inl less ↦
      let rest = left_within depth n (omega arith) in
      let some = left_some depth m in
      let fewer = later_less r s (room depth) less in
      omega (arith, rest, some, fewer)
  | inr both ↦
      let rest = falls depth m n (omega arith) (omega arith) both.1 in
      let same : later r * room depth ≡ later s * room depth = ap (λ rank. (4 - rank) * room depth) both.0 in
      omega (arith, rest, same)
]
