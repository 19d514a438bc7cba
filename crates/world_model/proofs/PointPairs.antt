-- The pairs of a problem, and that each statement is about one.
use Rattle.std.proofs.Common.{◌≡◌, ℕ, ◌<◌, Bool, true, false, not, ◌&&◌, List, [], ◌∷◌, map, inl, inr, sym, ap, subst, arith}
use Rattle.std.specs.Prelude.{nat_lt, filter, filter_map, Some}
use Rattle.std.specs.List.{list_all, items_where_true}
use Rattle.std.proofs.lemmas.Bool.{and_parts, ltb-true, lt-ltb, cases_Bool}
use Rattle.world_model.specs.declared.Articulation.{Articulation}
use Rattle.world_model.specs.declared.Articulation.TheVariants.{Pair, Sum}
use Rattle.world_model.specs.Problem.{Problem, Constraint, concept_count, concepts, all_pairs, is_cross, pairs, constraints, kept_articulations, as_constraint, is_problem, is_articulation, is_about_pair, is_concept}
use Rattle.world_model.proofs.Members.{In, here, there, all_at, In-map, from_map, In-filter, from_filter, In-left, In-right, from_append, In-flat_map, from_flat_map, from_filter_map, In-range, from_range, IsOf, IsImage, IsGiven}

-- two numbers of concepts, the lower first
pub record IsPair (p : Problem) (pair : ℕ × ℕ) : Type 0 where
  pub order : pair.0 < pair.1
  pub within : pair.1 < concept_count p

pub In-concepts : (p : Problem) (c : ℕ) → c < concept_count p → In c (concepts p)
In-concepts p c h = In-range 0 (concept_count p) c (omega arith) (omega arith)

pub concept_below : (p : Problem) (c : ℕ) → In c (concepts p) → c < concept_count p
concept_below p c i = let r = from_range 0 (concept_count p) i in omega (arith, r.1)

In-all_pairs : (p : Problem) (pair : ℕ × ℕ) → IsPair p pair → In pair (all_pairs p)
In-all_pairs p pair h =
    In-flat_map (λ i. map (λ j. (i, j)) (filter (nat_lt i) (concepts p))) (In-concepts p pair.0 (omega (arith, h.order, h.within)))
    (In-map (λ j. (pair.0, j)) (In-filter (nat_lt pair.0) (In-concepts p pair.1 h.within) (lt-ltb pair.0 pair.1 h.order)))

from_all_pairs : (p : Problem) (pair : ℕ × ℕ) → In pair (all_pairs p) → IsPair p pair
from_all_pairs p pair h =
    let of : IsOf (λ i. map (λ j. (i, j)) (filter (nat_lt i) (concepts p))) pair (concepts p) = from_flat_map (λ i. map (λ j. (i, j)) (filter (nat_lt i) (concepts p))) (concepts p) h in
    let image : IsImage (λ j. (of.source, j)) pair (filter (nat_lt of.source) (concepts p)) = from_map (λ j. (of.source, j)) (filter (nat_lt of.source) (concepts p)) of.has in
    let kept = from_filter (nat_lt of.source) (concepts p) image.member in
    let made : IsPair p (of.source, image.source) = record { order = ltb-true of.source image.source kept.1; within = concept_below p image.source kept.0 } in
    subst (λ q. IsPair p q) (sym image.is) made

pub In-pairs : (p : Problem) (pair : ℕ × ℕ) → IsPair p pair → In pair (pairs p)
In-pairs p pair h = elim (cases_Bool (is_cross p pair)) [
  | inl cross ↦ In-left (filter (λ pair. not (is_cross p pair)) (all_pairs p)) (In-filter (is_cross p) (In-all_pairs p pair h) cross)
  | inr inside ↦ In-right (filter (is_cross p) (all_pairs p)) (In-filter (λ pair. not (is_cross p pair)) (In-all_pairs p pair h) (ap not inside))
]

pub from_pairs : (p : Problem) (pair : ℕ × ℕ) → In pair (pairs p) → IsPair p pair
from_pairs p pair h = elim (from_append (filter (is_cross p) (all_pairs p)) h) [
  | inl i ↦ from_all_pairs p pair (from_filter (is_cross p) (all_pairs p) i).0
  | inr i ↦ from_all_pairs p pair (from_filter (λ pair. not (is_cross p pair)) (all_pairs p) i).0
]

-- what is kept is one of the list
kept_in : {X : Type 0} (flags : List Bool) (xs : List X) {x : X} → In x (items_where_true flags xs) → In x xs
kept_in [] xs i = elim i [ ]
kept_in (b ∷ flags) [] i = elim i [ ]
kept_in (true ∷ flags) (y ∷ xs) (here e) = here e
kept_in (true ∷ flags) (y ∷ xs) (there i) = there (kept_in flags xs i)
kept_in (false ∷ flags) (y ∷ xs) i = there (kept_in flags xs i)

stated_pair : (p : Problem) (a : Articulation) (c : Constraint) → is_articulation p a ≡ true → as_constraint a ≡ Some c → is_about_pair p c ≡ true
stated_pair p (Pair left right set) c h e =
    let parts = (and_parts (nat_lt left right && is_concept p right) (is_cross p (left, right)) h).0 in
    let same : record { left = left; right = right; set = set } ≡ c = cc in
    subst (λ c. is_about_pair p c ≡ true) same parts
stated_pair p (Sum whole parts) c h e = absurd (cc)

-- the statements of a problem are about pairs of its concepts
pub stated_is_pair : (p : Problem) → is_problem p ≡ true → (c : Constraint) → In c (constraints p) → IsPair p (c.left, c.right)
stated_is_pair p h c i =
    let parts = and_parts _ (list_all (is_about_pair p) p.narrowings) h in
    let about : is_about_pair p c ≡ true = elim (from_append (filter_map as_constraint (kept_articulations p)) i) [
      | inl stated ↦
          let given : IsGiven as_constraint c (kept_articulations p) = from_filter_map as_constraint (kept_articulations p) stated in
          stated_pair p given.source c
          (all_at (is_articulation p) (and_parts _ (list_all (is_articulation p) p.articulations) parts.0).1 (kept_in p.kept p.articulations given.member))
          given.is
      | inr narrowed ↦ all_at (is_about_pair p) parts.1 narrowed
    ] in
    let sides = and_parts (nat_lt c.left c.right) (is_concept p c.right) about in
    record { order = ltb-true c.left c.right sides.0; within = ltb-true c.right (concept_count p) sides.1 }
