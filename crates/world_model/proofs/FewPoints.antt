-- How many needs a problem has at most, and so how many points for them.
use Rattle.std.proofs.Common.{◌≡◌, ℕ, ◌+◌, ◌*◌, ◌-◌, ◌^◌, ◌<◌, ◌≤◌, Bool, true, false, cond, List, [], ◌∷◌, ◌++◌, map, length, refl, arith, length-append, mul-le-mul_left, mul-le-mul_right}
use Rattle.std.specs.Prelude.{filter, flat_map, if◌then◌else◌}
use Rattle.std.proofs.lemmas.List.{length-map}
use Rattle.std.proofs.lemmas.List.FromFn.{length-range_with_len}
use Rattle.rcc5_core.specs.declared.Regions.{Regions}
use Rattle.rcc5_core.specs.declared.Occupancy.TheVariants.{Occupied}
use Rattle.rcc5_core.specs.Region.{all_regions, word_at, same_word}
use Rattle.world_model.specs.Problem.{Problem, pairs, pair_count, concepts, concept_count}
use Rattle.world_model.specs.Alive.{forced_of, forced_pairs, needs_at, needs}
use Rattle.world_model.specs.Alive.Need.{InRegion, InConcept}
use Rattle.world_model.proofs.PointOnce.{pairs_number}

pub filter_within : {X : Type 0} (test : X → Bool) (xs : List X) → length (filter test xs) ≤ length xs
filter_within test [] = omega arith
filter_within test (x ∷ xs) = by (test x) (filter_within test xs)
  where
    by : (b : Bool) → length (filter test xs) ≤ length xs → length (cond b (x ∷ filter test xs) (filter test xs)) ≤ length (x ∷ xs)
    by true h = omega arith
    by false h = omega arith

three_at_most : (entry : (ℕ × ℕ) × Regions) → length (needs_at entry) ≤ 3
three_at_most entry =
    let few : length (filter (λ region. same_word (word_at entry.1 region) Occupied) all_regions) ≤ 3 = filter_within (λ region. same_word (word_at entry.1 region) Occupied) all_regions in
    let same = length-map (filter (λ region. same_word (word_at entry.1 region) Occupied) all_regions) (InRegion entry.0) in
    omega arith

needs_of_pairs : (entries : List ((ℕ × ℕ) × Regions)) → length (flat_map needs_at entries) ≤ 3 * length entries
needs_of_pairs [] = omega arith
needs_of_pairs (entry ∷ entries) =
    let both = length-append (needs_at entry) (flat_map needs_at entries) in
    let few = three_at_most entry in
    let rest = needs_of_pairs entries in
    omega arith

forced_counted : (p : Problem) (qs : List (ℕ × ℕ)) → length (forced_of p qs) ≡ length qs
forced_counted p [] = refl
forced_counted p (q ∷ qs) = let rest = forced_counted p qs in omega arith

-- there are three needs a pair and one a concept at most
needs_counted : (p : Problem) → length (needs p) ≤ 3 * pair_count p + concept_count p
needs_counted p = by p.switches.nonempty
  where
    by : (b : Bool) → length (flat_map needs_at (forced_pairs p) ++ (if b then map InConcept (concepts p) else [])) ≤ 3 * pair_count p + concept_count p
    by true =
        let both = length-append (flat_map needs_at (forced_pairs p)) (map InConcept (concepts p)) in
        let regions = needs_of_pairs (forced_pairs p) in
        let same = forced_counted p (pairs p) in
        let one = length-map (concepts p) InConcept in
        let all = length-range_with_len 0 (concept_count p) in
        omega arith
    by false =
        let both = length-append (flat_map needs_at (forced_pairs p)) [] in
        let regions = needs_of_pairs (forced_pairs p) in
        let same = forced_counted p (pairs p) in
        omega arith

-- so points for the needs of a problem that is not large are few
pub few_points : (p : Problem) (points : List (List Bool)) → concept_count p ≤ 1024 → length points ≤ length (needs p) → length points < 2 ^ 32
few_points p points small each =
    let few : length (needs p) ≤ 3 * pair_count p + concept_count p = needs_counted p in
    let pairs = pairs_number p in
    let most : concept_count p * (concept_count p - 1) ≤ 1024 * 1024 = at_most (concept_count p) (concept_count p - 1) 1024 small (omega arith) in
    omega arith
  where
    at_most : (a b n : ℕ) → a ≤ n → b ≤ n → a * b ≤ n * n
    at_most a b n h k =
        let one : a * b ≤ n * b = mul-le-mul_right b h in
        let two : n * b ≤ n * n = mul-le-mul_left n k in
        omega arith
