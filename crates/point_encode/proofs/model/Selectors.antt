-- Which selectors a prefix makes true, by pairs and regions and by sums; and which sums are kept.
use Rattle.std.proofs.Common.{◌≡◌, ℕ, zero, suc, ◌+◌, ◌*◌, ◌<◌, ◌⊎◌, Bool, true, false, cond, List, [], ◌∷◌, length, get_or, Option, None, Some, inl, inr, refl, sym, ap, ◌∙◌, subst, arith}
use Rattle.std.specs.Prelude.{filter, slice_get}
use Rattle.std.specs.List.{items_where_true}
use Rattle.std.specs.Option.{option_map_or, option_and_then}
use Rattle.std.proofs.lemmas.Bool.{false≢true}
use Rattle.std.proofs.lemmas.Option.{slice_get_within}
use Rattle.rcc5_core.specs.declared.Rel.{Rel}
use Rattle.rcc5_core.specs.declared.Region.{Region}
use Rattle.rcc5_core.specs.declared.Regions.{Regions}
use Rattle.rcc5_core.specs.declared.Occupancy.TheVariants.{Empty}
use Rattle.rcc5_core.specs.Region.{all_regions, word_at, same_word, forced_regions}
use Rattle.world_model.specs.declared.Articulation.{Articulation}
use Rattle.world_model.specs.declared.Articulation.TheVariants.{Pair, Sum}
use Rattle.world_model.specs.Problem.{Problem, SumRule, concept_count, pairs, pair_count, as_sum, kept_articulations, kept_sums}
use Rattle.world_model.specs.Alive.{allowed, forced_of, forced_pairs, problem_at}
use Rattle.world_model.specs.Node.{pair_at}
use Rattle.world_model.proofs.Members.{In, here, there, none_in, In-map, from_map, In-filter, from_filter, In-left, In-right, from_append, In-filter_map, from_filter_map, In-range, place_of, IsImage, IsGiven}
use Rattle.world_model.proofs.PointSets.{Forces, In-all_regions}
use Rattle.constraint_set.specs.Readers.{is_sum, is_sum_at, sum_places, all_sums, rule_at}
use Rattle.constraint_set.proofs.Sums.{sum_found, places_counted}
use Rattle.point_encode.specs.Model.Clauses.{is_so, first_sum_selector}
use Rattle.point_encode.specs.Model.Forced.{region_number, pair_selectors, region_selectors, sum_selectors, selectors_of}

-- whether a region is forced empty
abbrev empty_test : Regions → Region → Bool
empty_test words region = same_word (word_at words region) Empty

-- the selector of a region that is forced empty is there
pub region_selected : (q : Problem) (ps : List (ℕ × ℕ)) (first k : ℕ) (region : Region) → k < length ps → Forces (allowed q (get_or ps k (0, 0))) region false →
    In (is_so (first + 3 * k + region_number region)) (region_selectors first (forced_of q ps))
region_selected q [] first k region within f = absurd (omega arith)
region_selected q (pair ∷ ps) first zero region within f =
    let e : first ≡ first + 3 * 0 = omega arith in
    In-left (region_selectors (first + 3) (forced_of q ps))
    (subst (λ n. In (is_so (n + region_number region)) (pair_selectors first (forced_regions (allowed q pair)))) e
    (In-map (λ region. is_so (first + region_number region)) (In-filter (empty_test (forced_regions (allowed q pair))) (In-all_regions region) f.same)))
region_selected q (pair ∷ ps) first (suc k) region within f =
    let e : first + 3 + 3 * k ≡ first + 3 * suc k = omega arith in
    In-right (pair_selectors first (forced_regions (allowed q pair)))
    (subst (λ n. In (is_so (n + region_number region)) (region_selectors (first + 3) (forced_of q ps))) e (region_selected q ps (first + 3) k region (omega arith) f))

-- and each selector that is there is of such a region
pub record IsRegionSelector (q : Problem) (ps : List (ℕ × ℕ)) (first lit : ℕ) : Type 0 where
  pub pair : ℕ
  pub region : Region
  pub within : pair < length ps
  pub forced : Forces (allowed q (get_or ps pair (0, 0))) region false
  pub is : lit ≡ is_so (first + 3 * pair + region_number region)

pub from_regions : (q : Problem) (ps : List (ℕ × ℕ)) (first lit : ℕ) → In lit (region_selectors first (forced_of q ps)) → IsRegionSelector q ps first lit
from_regions q [] first lit i = absurd (none_in i)
from_regions q (pair ∷ ps) first lit i = elim (from_append (pair_selectors first (forced_regions (allowed q pair))) i) [
  | inl now ↦
      let words = forced_regions (allowed q pair) in
      let image : IsImage (λ region. is_so (first + region_number region)) lit (filter (empty_test words) all_regions) = from_map (λ region. is_so (first + region_number region)) (filter (empty_test words) all_regions) now in
      let e : first ≡ first + 3 * 0 = omega arith in
      record {
        pair = 0;
        region = image.source;
        within = omega arith;
        forced = record { same = (from_filter (empty_test words) all_regions image.member).1 };
        is = image.is ∙ ap (λ n. is_so (n + region_number image.source)) e;
      }
  | inr later ↦
      let r = from_regions q ps (first + 3) lit later in
      let e : first + 3 + 3 * r.pair ≡ first + 3 * suc r.pair = omega arith in
      record { pair = suc r.pair; region = r.region; within = omega (arith, r.within); forced = r.forced; is = r.is ∙ ap (λ n. is_so (n + region_number r.region)) e }
]

-- whether the sum of a number is kept, by the places of the sums
abbrev pub flag_of : List Bool → List ℕ → ℕ → Bool
flag_of kept places j = get_or kept (get_or places j 0) false

abbrev sum_selector : Bool → ℕ → List ℕ
sum_selector on first = cond on (is_so first ∷ []) []

-- the selector of a kept sum is there
pub sum_selected : (kept : List Bool) (places : List ℕ) (first j : ℕ) → j < length places → flag_of kept places j ≡ true → In (is_so (first + j)) (sum_selectors kept first places)
sum_selected kept [] first j within on = absurd (omega arith)
sum_selected kept (place ∷ places) first zero within on =
    let e : first ≡ first + 0 = omega arith in
    In-left (sum_selectors kept (first + 1) places) (subst (λ b. In (is_so (first + 0)) (sum_selector b first)) (sym on) (here (ap is_so (sym e))))
sum_selected kept (place ∷ places) first (suc j) within on =
    let e : first + 1 + j ≡ first + suc j = omega arith in
    In-right (sum_selector (get_or kept place false) first) (subst (λ n. In (is_so n) (sum_selectors kept (first + 1) places)) e (sum_selected kept places (first + 1) j (omega arith) on))

-- and each selector that is there is of such a sum
pub record IsSumSelector (kept : List Bool) (places : List ℕ) (first lit : ℕ) : Type 0 where
  pub sum : ℕ
  pub within : sum < length places
  pub on : flag_of kept places sum ≡ true
  pub is : lit ≡ is_so (first + sum)

pub from_sums : (kept : List Bool) (places : List ℕ) (first lit : ℕ) → In lit (sum_selectors kept first places) → IsSumSelector kept places first lit
from_sums kept [] first lit i = absurd (none_in i)
from_sums kept (place ∷ places) first lit i = elim (from_append (sum_selector (get_or kept place false) first) i) [
  | inl now ↦ one (get_or kept place false) refl now
  | inr later ↦
      let r = from_sums kept places (first + 1) lit later in
      let e : first + 1 + r.sum ≡ first + suc r.sum = omega arith in
      record { sum = suc r.sum; within = omega (arith, r.within); on = r.on; is = r.is ∙ ap is_so e }
]
  where
    one : (b : Bool) → get_or kept place false ≡ b → In lit (sum_selector b first) → IsSumSelector kept (place ∷ places) first lit
    one true on (here same) = let e : first ≡ first + 0 = omega arith in record { sum = 0; within = omega arith; on = on; is = same ∙ ap is_so e }
    one true on (there j) = absurd (none_in j)
    one false off j = absurd (none_in j)

-- what a prefix's selectors are of
pub from_selectors : (p : Problem) (m : List Rel) (lit : ℕ) → In lit (selectors_of p m) →
    IsRegionSelector (problem_at p m) (pairs p) (concept_count p) lit ⊎ IsSumSelector p.kept (sum_places p) (first_sum_selector p) lit
from_selectors p m lit i = elim (from_append (region_selectors (concept_count p) (forced_pairs (problem_at p m))) i) [
  | inl region ↦ inl (from_regions (problem_at p m) (pairs p) (concept_count p) lit region)
  | inr sum ↦ inr (from_sums p.kept (sum_places p) (first_sum_selector p) lit sum)
]

pub In-region_selectors : (p : Problem) (m : List Rel) (k : ℕ) (region : Region) → k < pair_count p → Forces (allowed (problem_at p m) (pair_at p k)) region false →
    In (is_so (concept_count p + 3 * k + region_number region)) (selectors_of p m)
In-region_selectors p m k region within f =
    In-left (sum_selectors p.kept (first_sum_selector p) (sum_places p)) (region_selected (problem_at p m) (pairs p) (concept_count p) k region within f)

pub In-sum_selectors : (p : Problem) (m : List Rel) (j : ℕ) → j < length (sum_places p) → flag_of p.kept (sum_places p) j ≡ true → In (is_so (first_sum_selector p + j)) (selectors_of p m)
In-sum_selectors p m j within on = In-right (region_selectors (concept_count p) (forced_pairs (problem_at p m))) (sum_selected p.kept (sum_places p) (first_sum_selector p) j within on)

-- what is kept has a true flag
kept_there : {X : Type 0} (flags : List Bool) (xs : List X) (k : ℕ) (x : X) → get_or flags k false ≡ true → slice_get xs k ≡ Some x → In x (items_where_true flags xs)
kept_there [] xs k x on at = absurd (false≢true on)
kept_there (b ∷ flags) [] k x on at = absurd (cc)
kept_there (b ∷ flags) (y ∷ xs) zero x on at = let same : y ≡ x = cc in rw on (here (sym same))
kept_there (true ∷ flags) (y ∷ xs) (suc k) x on at = there (kept_there flags xs k x on at)
kept_there (false ∷ flags) (y ∷ xs) (suc k) x on at = kept_there flags xs k x on at

record IsKept {X : Type 0} (flags : List Bool) (xs : List X) (x : X) : Type 0 where
  place : ℕ
  on : get_or flags place false ≡ true
  at : slice_get xs place ≡ Some x

from_kept : {X : Type 0} (flags : List Bool) (xs : List X) (x : X) → In x (items_where_true flags xs) → IsKept flags xs x
from_kept [] xs x i = absurd (none_in i)
from_kept (b ∷ flags) [] x i = absurd (none_in i)
from_kept (true ∷ flags) (y ∷ xs) x (here e) = record { place = 0; on = refl; at = ap (λ z. Some z) (sym e) }
from_kept (true ∷ flags) (y ∷ xs) x (there i) = let r = from_kept flags xs x i in record { place = suc r.place; on = r.on; at = r.at }
from_kept (false ∷ flags) (y ∷ xs) x i = let r = from_kept flags xs x i in record { place = suc r.place; on = r.on; at = r.at }

-- an articulation that says a sum
rule_given : (o : Option Articulation) (s : SumRule) → option_and_then as_sum o ≡ Some s → (a : Articulation) × (o ≡ Some a) × (as_sum a ≡ Some s)
rule_given None s e = absurd (cc)
rule_given (Some a) s e = (a, refl, e)

is_sum_from : (a : Articulation) (s : SumRule) → as_sum a ≡ Some s → is_sum a ≡ true
is_sum_from (Pair left right set) s e = absurd (cc)
is_sum_from (Sum whole parts) s e = refl

-- a sum whose flag is true is kept
pub sum_kept : (p : Problem) (j : ℕ) (s : SumRule) → slice_get (all_sums p) j ≡ Some s → flag_of p.kept (sum_places p) j ≡ true → In s (kept_sums p)
sum_kept p j s at on =
    let within : j < length (sum_places p) = omega (arith, slice_get_within (all_sums p) j s at, places_counted p) in
    let found = sum_found p j (get_or (sum_places p) j 0) within refl in
    let given = rule_given (slice_get p.articulations (get_or (sum_places p) j 0)) s (sym found.says ∙ at) in
    In-filter_map as_sum (kept_there p.kept p.articulations (get_or (sum_places p) j 0) given.0 on given.1) given.2

-- and each kept sum has a number with a true flag
pub record HasFlag (p : Problem) (s : SumRule) : Type 0 where
  pub sum : ℕ
  pub within : sum < length (sum_places p)
  pub at : slice_get (all_sums p) sum ≡ Some s
  pub on : flag_of p.kept (sum_places p) sum ≡ true

pub kept_flag : (p : Problem) (s : SumRule) → In s (kept_sums p) → HasFlag p s
kept_flag p s i =
    let given : IsGiven as_sum s (kept_articulations p) = from_filter_map as_sum (kept_articulations p) i in
    let kept = from_kept p.kept p.articulations given.source given.member in
    let k = kept.place in
    let within : k < length p.articulations = slice_get_within p.articulations k given.source kept.at in
    let one : is_sum_at p.articulations k ≡ true = ap (λ o. option_map_or is_sum o false) kept.at ∙ is_sum_from given.source s given.is in
    let stands : In k (sum_places p) = In-filter (is_sum_at p.articulations) (In-range 0 (length p.articulations) k (omega arith) (omega arith)) one in
    let r = place_of stands in
    let place_is : get_or (sum_places p) r.place 0 ≡ k = r.is 0 in
    let found = sum_found p r.place (get_or (sum_places p) r.place 0) r.within refl in
    record {
      sum = r.place;
      within = r.within;
      at = found.says ∙ ap (rule_at p.articulations) place_is ∙ ap (option_and_then as_sum) kept.at ∙ given.is;
      on = ap (λ place. get_or p.kept place false) place_is ∙ kept.on;
    }
