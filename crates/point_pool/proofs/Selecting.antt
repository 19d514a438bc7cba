-- The selectors of a prefix, in the order in which they are assumed.
use Rattle.std.proofs.Common.{◌≡◌, ℕ, zero, suc, ◌+◌, ◌*◌, ◌<◌, Bool, true, false, cond, List, [], ◌∷◌, ◌++◌, length, get_or, append_assoc, inl, inr, sym, ap, ◌∙◌, subst, arith}
use Rattle.std.specs.Prelude.{flat_map, filter}
use Rattle.std.specs.List.{range_with_len}
use Rattle.std.proofs.lemmas.Bool.{cases_lt}
use Rattle.std.proofs.lemmas.List.{append-nil}
use Rattle.std.proofs.lemmas.Grind.{flat_map-append}
use Rattle.rcc5_core.specs.declared.Rel.{Rel}
use Rattle.rcc5_core.specs.declared.Region.{Region}
use Rattle.rcc5_core.specs.declared.Regions.{Regions}
use Rattle.rcc5_core.specs.declared.Occupancy.TheVariants.{Empty}
use Rattle.rcc5_core.specs.Region.{all_regions, word_at, same_word, forced_regions}
use Rattle.world_model.specs.Problem.{Problem, concept_count, pairs, pair_count}
use Rattle.world_model.specs.Node.{pair_at}
use Rattle.world_model.specs.Alive.{allowed, forced_of, forced_pairs, problem_at}
use Rattle.world_model.specs.Laws.{PositionsNarrow}
use Rattle.world_model.proofs.Members.{In, none_in, In-map, from_map, In-filter, from_filter, In-left, In-right, from_append, In-flat_map, from_flat_map, In-range, from_range, in_from_contains, contains_from_in, IsImage, IsOf}
use Rattle.world_model.proofs.PointSets.{Forces}
use Rattle.constraint_set.specs.Readers.{sum_places}
use Rattle.constraint_set.proofs.Lists.{range_more}
use Rattle.point_encode.specs.Model.Clauses.{is_so, first_sum_selector}
use Rattle.point_encode.specs.Model.Forced.{region_number, region_selectors, sum_selectors, selectors_of, pair_selectors}
use Rattle.point_pool.specs.Cursors.{IsOpen, kept_selector, start_selectors, kept_selectors, path_selectors, AreSelectors}
use Rattle.world_model.specs.Points.{forced_at}
use Rattle.point_pool.proofs.Prefixes.{forced_later}

-- one list more
pub lists_more : (f : ℕ → List ℕ) (old now more : List ℕ) (i : ℕ) → now ≡ old ++ flat_map f (range_with_len 0 i) → more ≡ now ++ f i → more ≡ old ++ flat_map f (range_with_len 0 (i + 1))
lists_more f old now more i upto step =
    step ∙ ap (λ ls. ls ++ f i) upto ∙ append_assoc old (flat_map f (range_with_len 0 i)) (f i) ∙
    ap (λ ls. old ++ ls) (ap (λ ls. flat_map f (range_with_len 0 i) ++ ls) (sym (append-nil (f i))) ∙ sym (flat_map-append f (range_with_len 0 i) (i ∷ [])) ∙ ap (flat_map f) (sym (range_more i)))

into_pair : (first : ℕ) (regions others : Regions) (lit : ℕ) → ((region : Region) → same_word (word_at regions region) Empty ≡ true → same_word (word_at others region) Empty ≡ true) →
    In lit (pair_selectors first regions) → In lit (pair_selectors first others)
into_pair first regions others lit more i =
    let image : IsImage (λ region. is_so (first + region_number region)) lit (filter (λ region. same_word (word_at regions region) Empty) all_regions) =
    from_map (λ region. is_so (first + region_number region)) (filter (λ region. same_word (word_at regions region) Empty) all_regions) i in
    let parts = from_filter (λ region. same_word (word_at regions region) Empty) all_regions image.member in
    subst (λ l. In l (pair_selectors first others)) (sym image.is)
    (In-map (λ region. is_so (first + region_number region)) (In-filter (λ region. same_word (word_at others region) Empty) parts.0 (more image.source parts.1)))

-- a selector of regions is one of a pair's
from_regions : (q : Problem) (first : ℕ) (ps : List (ℕ × ℕ)) (lit : ℕ) → In lit (region_selectors first (forced_of q ps)) →
    (k : ℕ) × (k < length ps) × In lit (pair_selectors (first + 3 * k) (forced_regions (allowed q (get_or ps k (0, 0)))))
from_regions q first [] lit i = absurd (none_in i)
from_regions q first (pair ∷ rest) lit i = elim (from_append (pair_selectors first (forced_regions (allowed q pair))) i) [
  | inl now ↦ (0, omega arith, subst (λ n. In lit (pair_selectors n (forced_regions (allowed q pair)))) (omega arith) now)
  | inr later ↦
      let r = from_regions q (first + 3) rest lit later in
      (suc r.0, omega (arith, r.1), subst (λ n. In lit (pair_selectors n (forced_regions (allowed q (get_or rest r.0 (0, 0)))))) (omega arith) r.2)
]

into_regions : (q : Problem) (first : ℕ) (ps : List (ℕ × ℕ)) (lit k : ℕ) → k < length ps → In lit (pair_selectors (first + 3 * k) (forced_regions (allowed q (get_or ps k (0, 0))))) →
    In lit (region_selectors first (forced_of q ps))
into_regions q first [] lit k h i = absurd (omega arith)
into_regions q first (pair ∷ rest) lit zero h i =
    In-left (region_selectors (first + 3) (forced_of q rest)) (subst (λ n. In lit (pair_selectors n (forced_regions (allowed q pair)))) (omega arith) i)
into_regions q first (pair ∷ rest) lit (suc k) h i =
    In-right (pair_selectors first (forced_regions (allowed q pair)))
    (into_regions q (first + 3) rest lit k (omega arith) (subst (λ n. In lit (pair_selectors n (forced_regions (allowed q (get_or rest k (0, 0)))))) (omega arith) i))

-- a selector of a sum is that of a kept one
abbrev one_sum : List Bool → ℕ → ℕ → List ℕ
one_sum kept first place = cond (get_or kept place false) (is_so first ∷ []) []

from_sums : (kept : List Bool) (first : ℕ) (places : List ℕ) (lit : ℕ) → In lit (sum_selectors kept first places) →
    (j : ℕ) × (j < length places) × In lit (one_sum kept (first + j) (get_or places j 0))
from_sums kept first [] lit i = absurd (none_in i)
from_sums kept first (place ∷ rest) lit i = elim (from_append (one_sum kept first place) i) [
  | inl now ↦ (0, omega arith, subst (λ n. In lit (one_sum kept n place)) (omega arith) now)
  | inr later ↦
      let r = from_sums kept (first + 1) rest lit later in
      (suc r.0, omega (arith, r.1), subst (λ n. In lit (one_sum kept n (get_or rest r.0 0))) (omega arith) r.2)
]

into_sums : (kept : List Bool) (first : ℕ) (places : List ℕ) (lit j : ℕ) → j < length places → In lit (one_sum kept (first + j) (get_or places j 0)) → In lit (sum_selectors kept first places)
into_sums kept first [] lit j h i = absurd (omega arith)
into_sums kept first (place ∷ rest) lit zero h i = In-left (sum_selectors kept (first + 1) rest) (subst (λ n. In lit (one_sum kept n place)) (omega arith) i)
into_sums kept first (place ∷ rest) lit (suc j) h i =
    In-right (one_sum kept first place) (into_sums kept (first + 1) rest lit j (omega arith) (subst (λ n. In lit (one_sum kept n (get_or rest j 0))) (omega arith) i))

-- all of them are the selectors of the prefix
pub selectors_are : PositionsNarrow → (p : Problem) (m : List Rel) (lits : List ℕ) → IsOpen p m → lits ≡ start_selectors p ++ kept_selectors p ++ path_selectors p m → AreSelectors p m lits
selectors_are law p m lits o same = record {
  there = λ lit h. contains_from_in (subst (λ ls. In lit ls) (sym same) (there_in lit (in_from_contains (selectors_of p m) h)));
  no_others = λ lit h. contains_from_in (no_others_in lit (subst (λ ls. In lit ls) same (in_from_contains lits h)));
}
  where
    q : Problem
    q = problem_at p m

    n : ℕ
    n = concept_count p

    into_start : (lit k : ℕ) → k < pair_count p → In lit (pair_selectors (n + 3 * k) (forced_at p k)) → In lit (start_selectors p)
    into_start lit k h i = In-flat_map (λ j. pair_selectors (n + 3 * j) (forced_at p j)) (In-range 0 (pair_count p) k (omega arith) (omega arith)) i

    into_path : (lit k : ℕ) → k < length m → In lit (pair_selectors (n + 3 * k) (forced_at q k)) → In lit (path_selectors p m)
    into_path lit k h i = In-flat_map (λ j. pair_selectors (n + 3 * j) (forced_at q j)) (In-range 0 (length m) k (omega arith) (omega arith)) i

    region_there : (lit : ℕ) → In lit (region_selectors n (forced_of q (pairs p))) → In lit (start_selectors p ++ kept_selectors p ++ path_selectors p m)
    region_there lit i =
        let r = from_regions q n (pairs p) lit i in
        elim (cases_lt r.0 (length m)) [
          | inl inside ↦ In-right (start_selectors p ++ kept_selectors p) (into_path lit r.0 inside r.2)
          | inr past ↦
              let now = subst (λ set. In lit (pair_selectors (n + 3 * r.0) (forced_regions set))) (law.beyond p m r.0 past r.1) r.2 in
              In-left (path_selectors p m) (In-left (kept_selectors p) (into_start lit r.0 r.1 now))
        ]

    sum_there : (lit : ℕ) → In lit (sum_selectors p.kept (first_sum_selector p) (sum_places p)) → In lit (start_selectors p ++ kept_selectors p ++ path_selectors p m)
    sum_there lit i =
        let r = from_sums p.kept (first_sum_selector p) (sum_places p) lit i in
        In-left (path_selectors p m) (In-right (start_selectors p) (In-flat_map (kept_selector p) (In-range 0 (length (sum_places p)) r.0 (omega arith) (omega (arith, r.1))) r.2))

    there_in : (lit : ℕ) → In lit (selectors_of p m) → In lit (start_selectors p ++ kept_selectors p ++ path_selectors p m)
    there_in lit i = elim (from_append (region_selectors n (forced_pairs q)) i) [ inl region ↦ region_there lit region | inr sum ↦ sum_there lit sum ]

    start_in : (lit : ℕ) → In lit (start_selectors p) → In lit (region_selectors n (forced_of q (pairs p)))
    start_in lit i =
        let of : IsOf (λ k. pair_selectors (n + 3 * k) (forced_at p k)) lit (range_with_len 0 (pair_count p)) = from_flat_map (λ k. pair_selectors (n + 3 * k) (forced_at p k)) (range_with_len 0 (pair_count p)) i in
        let k = of.source in
        let within = (from_range 0 (pair_count p) of.member).1 in
        let small : k < pair_count p = omega (arith, within) in
        into_regions q n (pairs p) lit k small (into_pair (n + 3 * k) (forced_at p k) (forced_at q k) lit (λ region h.
        (forced_later law p m 0 k region false o (omega arith) small (subst (λ s. Forces (allowed s (pair_at p k)) region false) (sym (law.at_start p)) (record { same = h }))).same) of.has)

    path_in : (lit : ℕ) → In lit (path_selectors p m) → In lit (region_selectors n (forced_of q (pairs p)))
    path_in lit i =
        let of : IsOf (λ k. pair_selectors (n + 3 * k) (forced_at q k)) lit (range_with_len 0 (length m)) = from_flat_map (λ k. pair_selectors (n + 3 * k) (forced_at q k)) (range_with_len 0 (length m)) i in
        let within = (from_range 0 (length m) of.member).1 in
        into_regions q n (pairs p) lit of.source (omega (arith, within, o.within)) of.has

    kept_in : (lit : ℕ) → In lit (kept_selectors p) → In lit (sum_selectors p.kept (first_sum_selector p) (sum_places p))
    kept_in lit i =
        let of : IsOf (kept_selector p) lit (range_with_len 0 (length (sum_places p))) = from_flat_map (kept_selector p) (range_with_len 0 (length (sum_places p))) i in
        let within = (from_range 0 (length (sum_places p)) of.member).1 in
        into_sums p.kept (first_sum_selector p) (sum_places p) lit of.source (omega (arith, within)) of.has

    no_others_in : (lit : ℕ) → In lit (start_selectors p ++ kept_selectors p ++ path_selectors p m) → In lit (selectors_of p m)
    no_others_in lit i = elim (from_append (start_selectors p ++ kept_selectors p) i) [
      | inr path ↦ In-left (sum_selectors p.kept (first_sum_selector p) (sum_places p)) (path_in lit path)
      | inl both ↦ elim (from_append (start_selectors p) both) [
        | inl start ↦ In-left (sum_selectors p.kept (first_sum_selector p) (sum_places p)) (start_in lit start)
        | inr sum ↦ In-right (region_selectors n (forced_pairs q)) (kept_in lit sum)
      ]
    ]
