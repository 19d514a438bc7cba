-- The points found by trial are the points, so that aliveness by trial is aliveness.
use Rattle.std.proofs.Common.{◌≡◌, ℕ, zero, suc, Bool, true, false, ◌&&◌, ◌↔◌, List, [], ◌∷◌, map, length, refl, arith, IsTrue, eqb-true}
use Rattle.std.specs.Prelude.{◌==◌, Contains}
use Rattle.std.specs.List.{list_all, list_any}
use Rattle.std.proofs.lemmas.Bool.{and_parts, and_from}
use Rattle.world_model.specs.Problem.{Problem, concept_count, kept_sums}
use Rattle.world_model.specs.Family.{implies}
use Rattle.world_model.specs.Alive.{Need, is_in_need, needs, each_has_one, all_allow, IsAlive, HasPoint, is_point, obeys, forced_pairs, meets_structure, avoids, point_within, point_apart, point_covered, point_sums}
use Rattle.world_model.specs.Trial.{bit_lists, points_by_trial, alive_by_trial}
use Rattle.world_model.proofs.Members.{In, here, Found, all_at, all_from, any_at, any_from, In-filter, from_filter, In-map, In-left, In-right, in_from_contains, contains_from_in}

-- each list of n bits is among them all
pub in_bit_lists : (n : ℕ) (bits : List Bool) → length bits ≡ n → In bits (bit_lists n)
in_bit_lists zero [] h = here refl
in_bit_lists zero (b ∷ bits) h = absurd (omega arith)
in_bit_lists (suc n) [] h = absurd (omega arith)
in_bit_lists (suc n) (false ∷ bits) h =
    In-left (map (λ bits. true ∷ bits) (bit_lists n)) (In-map (λ bits. false ∷ bits) (in_bit_lists n bits (omega arith)))
in_bit_lists (suc n) (true ∷ bits) h =
    In-right (map (λ bits. false ∷ bits) (bit_lists n)) (In-map (λ bits. true ∷ bits) (in_bit_lists n bits (omega arith)))

first_of_five : (a b c d e : Bool) → (a && b && c && d && e) ≡ true → a ≡ true
first_of_five true b c d e h = refl
first_of_five false b c d e h = h

-- what meets the structure has a bit a concept
structure_length : (p : Problem) (bits : List Bool) → IsTrue (meets_structure p bits) → length bits ≡ concept_count p
structure_length p bits h =
    eqb-true (length bits) (concept_count p)
    (first_of_five (length bits == concept_count p) (point_within p bits) (implies p.switches.sibling (point_apart p bits))
    (implies p.switches.coverage (point_covered p bits)) (list_all (point_sums bits) (kept_sums p)) h)

pub in_points : (p : Problem) (bits : List Bool) → IsTrue (is_point p bits) → In bits (points_by_trial p)
in_points p bits h =
    let structure = (and_parts (meets_structure p bits) (list_all (avoids bits) (forced_pairs p)) h).0 in
    In-filter (obeys p (forced_pairs p)) (in_bit_lists (concept_count p) bits (structure_length p bits structure)) h

-- and only points are there
pub points-iff : (p : Problem) (bits : List Bool) → Contains (points_by_trial p) bits ↔ IsTrue (is_point p bits)
points-iff p bits = (
  λ c. (from_filter (obeys p (forced_pairs p)) (bit_lists (concept_count p)) (in_from_contains (points_by_trial p) c)).1,
  λ h. contains_from_in (in_points p bits h),
)

alive_from_trial : (p : Problem) → IsTrue (alive_by_trial p) → IsAlive p
alive_from_trial p h = record {
  allow = parts.0;
  points = λ need c. point need (any_at (is_in_need need) (points_by_trial p) (all_at (λ need. list_any (is_in_need need) (points_by_trial p)) parts.1 (in_from_contains (needs p) c)));
}
  where
    parts : IsTrue (all_allow p) × IsTrue (each_has_one (needs p) (points_by_trial p))
    parts = and_parts (all_allow p) (each_has_one (needs p) (points_by_trial p)) h

    point : (need : Need) → Found (is_in_need need) (points_by_trial p) → HasPoint p need
    point need f = (f.item, (from_filter (obeys p (forced_pairs p)) (bit_lists (concept_count p)) f.member).1, f.passes)

trial_from_alive : (p : Problem) → IsAlive p → IsTrue (alive_by_trial p)
trial_from_alive p a =
    and_from (all_allow p) (each_has_one (needs p) (points_by_trial p)) a.allow
    (all_from (λ need. list_any (is_in_need need) (points_by_trial p)) (needs p) (λ need i. each need (a.points need (contains_from_in i))))
  where
    each : (need : Need) → HasPoint p need → list_any (is_in_need need) (points_by_trial p) ≡ true
    each need w = any_from (is_in_need need) (in_points p w.0 w.1) w.2

pub alive_by_trial-iff : (p : Problem) → IsTrue (alive_by_trial p) ↔ IsAlive p
alive_by_trial-iff p = (alive_from_trial p, trial_from_alive p)
