-- What the pairs allow where one relation follows a prefix.
use Rattle.std.proofs.Common.{◌≡◌, ℕ, ◌+◌, ◌<◌, true, false, not, ◌⊎◌, inl, inr, List, [], ◌∷◌, ◌++◌, length, refl, sym, ap, ◌∙◌, subst, arith}
use Rattle.std.proofs.Math.Seq.{get_or-append_seam}
use Rattle.std.proofs.lemmas.List.{get_or_append_left, length-append}
use Rattle.std.proofs.lemmas.Bool.{both_ways, not-true, cases_order}
use Rattle.rcc5_core.specs.declared.Rel.{Rel}
use Rattle.rcc5_core.specs.declared.Rel.TheVariants.{Equals, Includes, IncludedIn, Overlaps, Disjoint}
use Rattle.rcc5_core.specs.RelationSet.{has, both_of, only, is_empty_set}
use Rattle.world_model.specs.Problem.{Problem, pairs, pair_count}
use Rattle.world_model.specs.Alive.{allowed, problem_at, IsAlive, all_allow}
use Rattle.world_model.specs.Node.{pair_at}
use Rattle.world_model.proofs.Members.{In, all_at, all_from, In-get_or, place_of, IsPlaced}
use Rattle.world_model.proofs.PointSets.{has_some}
use Rattle.world_model.proofs.PointOnce.{narrowed_inside, narrowed_beyond}
use Rattle.world_model.proofs.Narrowed.{both_only, none_common}

-- the set of one relation has it
only_itself : (r : Rel) → has (only r) r ≡ true
only_itself Equals = refl
only_itself Includes = refl
only_itself IncludedIn = refl
only_itself Overlaps = refl
only_itself Disjoint = refl

-- what a pair allows at a child: what it allows at the prefix, or, at the next pair, the child's relation alone
allowed_child : (p : Problem) (c : List Rel) (r : Rel) (pair : ℕ × ℕ) → length c < pair_count p → In pair (pairs p) →
    (allowed (problem_at p (c ++ r ∷ [])) pair ≡ allowed (problem_at p c) pair) ⊎
    ((pair_at p (length c) ≡ pair) × (allowed (problem_at p (c ++ r ∷ [])) pair ≡ both_of (allowed p pair) (only r)))
allowed_child p c r pair short i = by (place_of i)
  where
    long : length (c ++ r ∷ []) ≡ length c + 1
    long = length-append c (r ∷ [])

    by : IsPlaced pair (pairs p) →
        (allowed (problem_at p (c ++ r ∷ [])) pair ≡ allowed (problem_at p c) pair) ⊎
        ((pair_at p (length c) ≡ pair) × (allowed (problem_at p (c ++ r ∷ [])) pair ≡ both_of (allowed p pair) (only r)))
    by placed = elim (cases_order placed.place (length c)) [
      | inl same ↦
          let here : pair_at p (length c) ≡ pair = ap (pair_at p) (sym same) ∙ placed.is (0, 0) in
          let narrowed = narrowed_inside p (c ++ r ∷ []) (length c) (omega (arith, long)) short in
          inr (
            here,
            subst (λ q. allowed (problem_at p (c ++ r ∷ [])) q ≡ both_of (allowed p q) (only r)) here
                (narrowed ∙ ap (λ s. both_of (allowed p (pair_at p (length c))) (only s)) (get_or-append_seam c r [] Equals)),
          )
      | inr (inl before) ↦
          let one = narrowed_inside p (c ++ r ∷ []) placed.place (omega (arith, long)) placed.within in
          let other = narrowed_inside p c placed.place before placed.within in
          let same = ap (λ s. both_of (allowed p (pair_at p placed.place)) (only s)) (get_or_append_left c (r ∷ []) Equals placed.place before) in
          inl (subst (λ q. allowed (problem_at p (c ++ r ∷ [])) q ≡ allowed (problem_at p c) q) (placed.is (0, 0)) (one ∙ same ∙ sym other))
      | inr (inr after) ↦
          let one = narrowed_beyond p (c ++ r ∷ []) placed.place (omega (arith, long)) placed.within in
          let other = narrowed_beyond p c placed.place (omega arith) placed.within in
          inl (subst (λ q. allowed (problem_at p (c ++ r ∷ [])) q ≡ allowed (problem_at p c) q) (placed.is (0, 0)) (one ∙ sym other))
    ]

-- a prefix each of whose pairs allows something leads on by a relation that the next pair allows to such a prefix
pub child_allows : (p : Problem) (c : List Rel) (r : Rel) → all_allow (problem_at p c) ≡ true → length c < pair_count p → has (allowed p (pair_at p (length c))) r ≡ true → all_allow (problem_at p (c ++ r ∷ [])) ≡ true
child_allows p c r allow short allows =
    all_from (λ pair. not (is_empty_set (allowed (problem_at p (c ++ r ∷ [])) pair))) (pairs p) (λ pair i. ap not (some pair i (allowed_child p c r pair short i)))
  where
    some : (pair : ℕ × ℕ) → In pair (pairs p) →
        (allowed (problem_at p (c ++ r ∷ [])) pair ≡ allowed (problem_at p c) pair) ⊎
        ((pair_at p (length c) ≡ pair) × (allowed (problem_at p (c ++ r ∷ [])) pair ≡ both_of (allowed p pair) (only r))) →
        is_empty_set (allowed (problem_at p (c ++ r ∷ [])) pair) ≡ false
    some pair i (inl same) = ap is_empty_set same ∙ not-true (is_empty_set (allowed (problem_at p c) pair)) (all_at (λ pair. not (is_empty_set (allowed (problem_at p c) pair))) allow i)
    some pair i (inr at) =
        let here : has (allowed p pair) r ≡ true = subst (λ q. has (allowed p q) r ≡ true) at.0 allows in
        ap is_empty_set (at.1 ∙ both_only (allowed p pair) r here) ∙ has_some (only r) r (only_itself r)

-- a relation that the next pair does not allow leads to a dead prefix
pub refused_is_dead : (p : Problem) (c : List Rel) (r : Rel) → length c < pair_count p → has (allowed p (pair_at p (length c))) r ≡ false → IsAlive (problem_at p (c ++ r ∷ [])) → ⊥
refused_is_dead p c r short refused alive =
    let more = c ++ r ∷ [] in
    let pair = pair_at p (length c) in
    let i : In pair (pairs p) = In-get_or (pairs p) (length c) (0, 0) short in
    let narrowed : allowed (problem_at p more) pair ≡ both_of (allowed p pair) (only r) =
    narrowed_inside p more (length c) (omega (arith, length-append c (r ∷ []))) short ∙ ap (λ s. both_of (allowed p pair) (only s)) (get_or-append_seam c r [] Equals) in
    both_ways (is_empty_set (allowed (problem_at p more) pair))
    (not-true (is_empty_set (allowed (problem_at p more) pair)) (all_at (λ pair. not (is_empty_set (allowed (problem_at p more) pair))) alive.allow i))
    (ap is_empty_set narrowed ∙ none_common (allowed p pair) r refused)
