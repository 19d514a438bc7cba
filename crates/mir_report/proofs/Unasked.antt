-- Which relations are asked for where nobody reads the claims.
use Rattle.std.proofs.Common.{◌≡◌, ℕ, ◌+◌, ◌<◌, ◌≤◌, ◌⊎◌, true, false, not, List, [], ◌∷◌, ◌++◌, length, get_or, inl, inr, refl, sym, ap, ap₂, subst, ◌∙◌, arith}
use Rattle.std.specs.Prelude.{nat_lt, filter}
use Rattle.std.specs.List.{list_all}
use Rattle.std.proofs.lemmas.Bool.{and_from, and_parts, cases_eq, cases_Bool, not-true, lt-ltb}
use Rattle.std.proofs.lemmas.Option.{get_or_from_slice_get, slice_get_within}
use Rattle.std.proofs.lemmas.List.{length-append}
use Rattle.std.proofs.lemmas.List.Folds.{list_all-append}
use Rattle.std.proofs.Math.ListN.{get_or-append}
use Rattle.rcc5_core.specs.declared.Rel.{Rel}
use Rattle.rcc5_core.specs.declared.RelSet.{RelSet}
use Rattle.rcc5_core.specs.Region.{is_whole_set}
use Rattle.rcc5_core.specs.RelationSet.{has, only, is_empty_set, both_of}
use Rattle.world_model.specs.Problem.{Problem, Constraint, concept_count, pairs, pair_count, cross_pairs, narrowed, is_problem, is_about_pair, is_concept, all_pairs, is_cross}
use Rattle.world_model.specs.Alive.{allowed, all_whole, IsAlive}
use Rattle.world_model.specs.Node.{pair_at}
use Rattle.world_model.proofs.Members.{In, In-get_or, all_at, all_from}
use Rattle.world_model.proofs.PointPairs.{from_pairs}
use Rattle.world_model.proofs.PointAlive.{met_is_alive}
use Rattle.world_model.proofs.PointServed.{alive_is_met}
use Rattle.world_model.proofs.PointWhole.{single_is_whole, has-both_of}
use Rattle.cert_rules.proofs.NodeProblems.{children_narrow_law}
use Rattle.point_ladder.specs.Alone.{IsAliveAlone, AreAliveAlone}
use Rattle.mir_report.specs.Possible.{ArePossibleSets}
use Rattle.mir_report.specs.Steps.{HasPossible, AreCandidates}
use Rattle.mir_report.proofs.Laws.{possible_is_met, refused_is_impossible, cross_within}
use Rattle.point_ladder.proofs.AliveAlone.{at_end}

-- a possible relation keeps the problem alive where the pair is narrowed to it
alive_candidates : (p : Problem) (count : ℕ) (sets : List RelSet) → count ≤ pair_count p → AreAliveAlone p count sets → AreCandidates p count sets
alive_candidates p count sets few are = record {
  counted = are.counted;
  each = λ pair d within rel possible.
      (are.each pair d within rel).1 (met_is_alive (narrowed p (pair_at p pair) (only rel)) ((possible_is_met p pair rel (omega (arith, few, within))).0 possible));
}

-- and it is one that the pair allows
allowed_possible : (p : Problem) (pair : ℕ) → pair < pair_count p → HasPossible p pair (allowed p (pair_at p pair))
allowed_possible p pair within rel possible = elim (cases_Bool (has (allowed p (pair_at p pair)) rel)) [
  | inl there ↦ there
  | inr refused ↦ absurd (refused_is_impossible p pair rel within refused possible)
]

-- what one pair more allows
pub candidates_more : (p : Problem) (k : ℕ) (sets more : List RelSet) (set : RelSet) → k < pair_count p → set ≡ allowed p (pair_at p k) → more ≡ sets ++ set ∷ [] → AreCandidates p k sets → AreCandidates p (k + 1) more
candidates_more p k sets more set within is put are = subst (AreCandidates p (k + 1)) (sym put) (record {
  counted = length-append sets (set ∷ []) ∙ (let n = are.counted in omega (arith, n));
  each = λ i d small. elim (cases_eq i k) [
    | inl last ↦ subst (λ j. HasPossible p j (get_or (sets ++ set ∷ []) j d)) (sym last)
        (subst (HasPossible p k) (sym (at_end sets set k d are.counted ∙ is)) (allowed_possible p k within))
    | inr before ↦ subst (HasPossible p i) (sym (get_or-append sets (set ∷ []) d i (let n = are.counted in omega (arith, n, small, before)))) (are.each i d (omega (arith, small, before)))
  ];
})

-- a problem with one pair narrowed to a relation is one
narrowed_is_problem : (p : Problem) (pair : ℕ) (rel : Rel) → pair < pair_count p → is_problem p ≡ true → is_problem (narrowed p (pair_at p pair) (only rel)) ≡ true
narrowed_is_problem p pair rel within h =
    let parts = and_parts _ (list_all (is_about_pair p) p.narrowings) h in
    let one : Constraint = record { left = (pair_at p pair).0; right = (pair_at p pair).1; set = only rel } in
    let is = from_pairs p (pair_at p pair) (In-get_or (pairs p) pair (0, 0) within) in
    and_from _ (list_all (is_about_pair p) (p.narrowings ++ one ∷ [])) parts.0
    (list_all-append (is_about_pair p) p.narrowings (one ∷ []) ∙
    and_from (list_all (is_about_pair p) p.narrowings) (list_all (is_about_pair p) (one ∷ [])) parts.1
    (and_from (is_about_pair p one) true
    (and_from (nat_lt one.left one.right) (is_concept p one.right) (lt-ltb one.left one.right is.order) (lt-ltb one.right (concept_count p) is.within)) refl))

-- two pairs are one, or they are not
pair_cases : (a b : ℕ × ℕ) → (a ≡ b) ⊎ (a ≡ b → ⊥)
pair_cases a b = elim (cases_eq a.0 b.0) [
  | inl left ↦ elim (cases_eq a.1 b.1) [
    | inl right ↦ inl (ap₂ (λ (x y : ℕ). (x, y)) left right)
    | inr apart ↦ inr (λ same. apart (ap (λ (pair : ℕ × ℕ). pair.1) same))
  ]
  | inr apart ↦ inr (λ same. apart (ap (λ (pair : ℕ × ℕ). pair.0) same))
]

-- where all pairs allow whole sets and the problem stays alive, they do so still
whole_narrowed : (p : Problem) (pair : ℕ × ℕ) (rel : Rel) → all_whole p ≡ true → IsAlive (narrowed p pair (only rel)) → all_whole (narrowed p pair (only rel)) ≡ true
whole_narrowed p pair rel whole alive = all_from (λ other. is_whole_set (allowed (narrowed p pair (only rel)) other)) (pairs p) by
  where
    q : Problem
    q = narrowed p pair (only rel)

    some : (other : ℕ × ℕ) → In other (pairs p) → is_empty_set (allowed q other) ≡ false
    some other i = not-true (is_empty_set (allowed q other)) (all_at (λ other. not (is_empty_set (allowed q other))) alive.allow i)

    own : (other : ℕ × ℕ) → In other (pairs p) → other ≡ pair → is_whole_set (allowed q other) ≡ true
    own other i same = single_is_whole (allowed q other) rel (some other i) (λ found h.
        (and_parts (has (allowed p other) found) (has (only rel) found) (sym (has-both_of (allowed p other) (only rel) found)
        ∙ ap (λ s. has s found) (sym (subst (λ o. allowed q o ≡ both_of (allowed p o) (only rel)) (sym same) (children_narrow_law.own p pair (only rel)))) ∙ h)).1)

    by : (other : ℕ × ℕ) → In other (pairs p) → is_whole_set (allowed q other) ≡ true
    by other i = elim (pair_cases other pair) [
      | inl same ↦ own other i same
      | inr apart ↦ ap is_whole_set (children_narrow_law.others p pair other (only rel) apart) ∙ all_at (λ other. is_whole_set (allowed p other)) whole i
    ]

-- so there each relation that stays alive is possible, and no other
pub alive_sets_are_possible : (p : Problem) (sets : List RelSet) → is_problem p ≡ true → all_whole p ≡ true → AreAliveAlone p (length (cross_pairs p)) sets → ArePossibleSets p sets
alive_sets_are_possible p sets valid whole are = record {
  count = are.counted;
  each = λ pair set got rel.
      let within : pair < length (cross_pairs p) = (let n = are.counted in let k = slice_get_within sets pair set got in omega (arith, n, k)) in
      let room = cross_within p pair within in
      let is = subst (IsAliveAlone p pair) (get_or_from_slice_get sets pair set set got) (are.each pair set within) in
      let law = possible_is_met p pair rel room in (
        λ h. law.1 (let alive = (is rel).0 h in alive_is_met (narrowed p (pair_at p pair) (only rel)) (narrowed_is_problem p pair rel room valid) (whole_narrowed p (pair_at p pair) rel whole alive) alive),
        λ possible. (is rel).1 (met_is_alive (narrowed p (pair_at p pair) (only rel)) (law.0 possible)),
      );
}

-- the pairs across taxonomies are some of all
cross_few : (p : Problem) → length (cross_pairs p) ≤ pair_count p
cross_few p = let all = length-append (cross_pairs p) (filter (λ pair. not (is_cross p pair)) (all_pairs p)) in omega (arith, all)

-- what a table tells of these pairs
pub told_alive : (p : Problem) (count : ℕ) (sets : List RelSet) → count ≡ length (cross_pairs p) → AreAliveAlone p count sets → AreAliveAlone p (length (cross_pairs p)) sets
told_alive p count sets is are = subst (λ n. AreAliveAlone p n sets) is are

pub told_candidates : (p : Problem) (count : ℕ) (sets : List RelSet) → count ≡ length (cross_pairs p) → AreAliveAlone p count sets → AreCandidates p (length (cross_pairs p)) sets
told_candidates p count sets is are = alive_candidates p (length (cross_pairs p)) sets (cross_few p) (told_alive p count sets is are)
