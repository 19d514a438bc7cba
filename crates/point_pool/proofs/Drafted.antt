-- Drafted bits, tested concept by concept.
use Rattle.std.proofs.Common.{◌≡◌, ℕ, ◌+◌, ◌<◌, Bool, true, false, ◌&&◌, not, List, inl, inr, refl, sym, ap, ◌∙◌, subst, arith}
use Rattle.std.specs.Prelude.{IsTrue}
use Rattle.std.specs.List.{list_all}
use Rattle.std.proofs.lemmas.Bool.{cases_Bool, cases_lt, and_from}
use Rattle.rcc5_core.specs.declared.Occupancy.TheVariants.{Empty}
use Rattle.rcc5_core.specs.declared.Region.TheVariants.{LeftOnly, Both, RightOnly}
use Rattle.rcc5_core.specs.declared.Regions.{Regions}
use Rattle.rcc5_core.specs.Region.{word_at, same_word}
use Rattle.world_model.specs.Alive.{avoids, bit_of, forced_pairs, is_point, meets_structure}
use Rattle.world_model.specs.Node.{pair_at}
use Rattle.world_model.specs.Points.{avoids_at, forced_at}
use Rattle.world_model.specs.Problem.{Problem, concept_count, pair_count, pairs}
use Rattle.world_model.proofs.PointOnce.{pairs_once}
use Rattle.constraint_set.proofs.Gathering.{pair_order}
use Rattle.constraint_set.proofs.PointTests.{forced_avoids}
use Rattle.point_pool.specs.Drafted.{AvoidsPair, AvoidsPairsOf}

-- no pair is of one concept twice
pub with_itself : (p : Problem) (bits : List Bool) (x y : ℕ) → x ≡ y → AvoidsPair p bits x y
with_itself p bits x y same k within (inl is) = absurd (omega (arith, (pair_order p k (x, y) within (sym is)).0, same))
with_itself p bits x y same k within (inr is) = absurd (omega (arith, (pair_order p k (y, x) within (sym is)).0, same))

-- the pair of two concepts, by its number
pub by_number : (p : Problem) (bits : List Bool) (x y number : ℕ) → x < y → number < pair_count p → pair_at p number ≡ (x, y) → avoids_at p bits number ≡ true → AvoidsPair p bits x y
by_number p bits x y number order within at avoided k small (inl is) = subst (λ i. IsTrue (avoids_at p bits i)) (pairs_once p number k within small (at ∙ sym is)) avoided
by_number p bits x y number order within at avoided k small (inr is) = absurd (omega (arith, (pair_order p k (y, x) small (sym is)).0, order))

pub other_way : (p : Problem) (bits : List Bool) (x y : ℕ) → AvoidsPair p bits x y → AvoidsPair p bits y x
other_way p bits x y avoided k small (inl is) = avoided k small (inr is)
other_way p bits x y avoided k small (inr is) = avoided k small (inl is)

-- one concept more
pub pairs_more : (p : Problem) (bits : List Bool) (x i : ℕ) → ((y : ℕ) → y < i → AvoidsPair p bits x y) → AvoidsPair p bits x i → (y : ℕ) → y < i + 1 → AvoidsPair p bits x y
pairs_more p bits x i before now y small = elim (cases_lt y i) [
  | inl less ↦ before y less
  | inr here ↦ let same : i ≡ y = omega arith in subst (λ z. AvoidsPair p bits x z) same now
]

pub concepts_more : (p : Problem) (bits : List Bool) (i : ℕ) → ((x : ℕ) → x < i → bit_of bits x ≡ true → AvoidsPairsOf p bits x) → (bit_of bits i ≡ true → AvoidsPairsOf p bits i) →
    (x : ℕ) → x < i + 1 → bit_of bits x ≡ true → AvoidsPairsOf p bits x
concepts_more p bits i before now x small there = elim (cases_lt x i) [
  | inl less ↦ before x less there
  | inr here ↦ let same : i ≡ x = omega arith in subst (λ z. bit_of bits z ≡ true → AvoidsPairsOf p bits z) same now there
]

-- a pair neither of whose concepts has the point
neither : (bits : List Bool) (pair : ℕ × ℕ) (regions : Regions) → bit_of bits pair.0 ≡ false → bit_of bits pair.1 ≡ false → avoids bits (pair, regions) ≡ true
neither bits pair regions left right =
    let l = bit_of bits pair.0 in
    let r = bit_of bits pair.1 in
    and_from _ _ (not_there (same_word (word_at regions LeftOnly) Empty) (l && not r) (ap (λ b. b && not r) left))
    (and_from _ _ (not_there (same_word (word_at regions Both) Empty) (l && r) (ap (λ b. b && r) left))
    (and_from _ _ (not_there (same_word (word_at regions RightOnly) Empty) (not l && r) (ap (λ b. not b && r) left ∙ right)) refl))
  where
    not_there : (empty there : Bool) → there ≡ false → not (empty && there) ≡ true
    not_there true there is = ap not is
    not_there false there is = refl

-- so bits that have what a point has of the concepts alone are one
pub drafted_point : (p : Problem) (bits : List Bool) → meets_structure p bits ≡ true → ((x : ℕ) → x < concept_count p → bit_of bits x ≡ true → AvoidsPairsOf p bits x) → is_point p bits ≡ true
drafted_point p bits structure each = and_from (meets_structure p bits) (list_all (avoids bits) (forced_pairs p)) structure (forced_avoids p bits (pairs p) at)
  where
    at : (k : ℕ) → k < pair_count p → avoids_at p bits k ≡ true
    at k small =
        let order = pair_order p k (pair_at p k) small refl in
        elim (cases_Bool (bit_of bits (pair_at p k).0)) [
          | inl left ↦ each (pair_at p k).0 (omega (arith, order.0, order.1)) left (pair_at p k).1 order.1 k small (inl refl)
          | inr no_left ↦ elim (cases_Bool (bit_of bits (pair_at p k).1)) [
            | inl right ↦ each (pair_at p k).1 order.1 right (pair_at p k).0 (omega (arith, order.0, order.1)) k small (inr refl)
            | inr no_right ↦ neither bits (pair_at p k) (forced_at p k) no_left no_right
          ]
        ]
