-- Points that serve a problem of whole allowed sets, taken as a family, meet it.
use Rattle.std.proofs.Common.{◌≡◌, ℕ, ◌+◌, ◌<◌, Bool, true, false, not, cond, List, [], ◌∷◌, map, length, refl, sym, ap, ◌∙◌, subst, arith}
use Rattle.std.specs.Prelude.{◌==◌, nat_lt}
use Rattle.std.specs.List.{list_all, list_any}
use Rattle.std.proofs.lemmas.Bool.{and_parts, and_from, or_right, false_from_ne_true, eqb-true, eq-eqb, lt-ltb, both_ways, not-true}
use Rattle.std.proofs.lemmas.List.FromFn.{length-map-range_with_len}
use Rattle.rcc5_core.specs.declared.Region.{Region}
use Rattle.rcc5_core.specs.declared.Region.TheVariants.{LeftOnly, Both, RightOnly}
use Rattle.rcc5_core.specs.Relation.{is_subset, have_common, relation_of}
use Rattle.rcc5_core.specs.RelationSet.{has, is_empty_set}
use Rattle.rcc5_core.specs.Region.{is_whole_set}
use Rattle.rcc5_core.proofs.Sets.{relation_of-by}
use Rattle.world_model.specs.Problem.{Problem, concept_count, concepts, pairs, constraints, is_problem}
use Rattle.world_model.specs.Family.{set_of, fits_concepts, none_empty, holds, meets}
use Rattle.world_model.specs.Alive.{allowed, bit_of, point_at, lies_in, is_point, Need, is_in_need, needs, all_allow, all_whole, HasPoint, IsAlive, places_with, family_of, each_has_one, serves}
use Rattle.world_model.specs.Alive.Need.{InRegion, InConcept}
use Rattle.world_model.specs.Questions.{IsMet}
use Rattle.world_model.proofs.Members.{In, here, there, all_at, all_from, any_at, any_from, from_map, In-get_or, place_of, contains_from_in, Found, IsImage}
use Rattle.world_model.proofs.PointSets.{implies_from, Forces}
use Rattle.world_model.proofs.PointWhole.{whole_has, allows_at, about_from}
use Rattle.world_model.proofs.PointFamilies.{Shows, shown_in, is_seen, seen_at, seen_from, lies_shown, points_show, in_points}
use Rattle.world_model.proofs.PointRules.{met_whole, rules_from, structure_parts, element_so, all_so}
use Rattle.world_model.proofs.PointPairs.{In-pairs, stated_is_pair}
use Rattle.world_model.proofs.PointAlive.{Pointed, point_parts, IsNeed, In-needs}

-- points that serve, each a point and each need with one
pub record Serves (p : Problem) (points : List (List Bool)) : Type 0 where
  pub each : (bits : List Bool) → In bits points → Pointed p bits
  pub needed : (need : Need) → IsNeed p need → Found (is_in_need need) points

pub serve_parts : (p : Problem) (points : List (List Bool)) → serves p points ≡ true → Serves p points
serve_parts p points h =
    let parts = and_parts (list_all (is_point p) points) (each_has_one (needs p) points) h in
    record {
      each = λ bits i. point_parts p bits (all_at (is_point p) parts.0 i);
      needed = λ need n. any_at (is_in_need need) points (all_at (λ need. list_any (is_in_need need) points) parts.1 (In-needs p need n));
    }

serving_shows : (p : Problem) (points : List (List Bool)) → Serves p points → Shows (family_of p points) (point_at points)
serving_shows p points s = points_show p points (λ bits i. eqb-true (length bits) (concept_count p) (structure_parts p bits (s.each bits i).structure).full)

-- each element is one of the points
element_pointed : (p : Problem) (points : List (List Bool)) → Serves p points → (x c : ℕ) → bit_of (point_at points x) c ≡ true → Pointed p (point_at points x)
element_pointed p points s x c b = s.each (point_at points x) (In-get_or points x [] (in_points points x c b))

-- a bit that is true where a point lies in a region
lies_bit : (region : Region) (pair : ℕ × ℕ) (bits : List Bool) → lies_in region pair bits ≡ true → (c : ℕ) × (bit_of bits c ≡ true)
lies_bit LeftOnly pair bits h = (pair.0, (and_parts (bit_of bits pair.0) (not (bit_of bits pair.1)) h).0)
lies_bit Both pair bits h = (pair.0, (and_parts (bit_of bits pair.0) (bit_of bits pair.1) h).0)
lies_bit RightOnly pair bits h = (pair.1, (and_parts (not (bit_of bits pair.0)) (bit_of bits pair.1) h).1)

-- what is forced of a pair is so in the family
served_so : (p : Problem) (points : List (List Bool)) → Serves p points → (pair : ℕ × ℕ) → In pair (pairs p) → (region : Region) (b : Bool) →
    Forces (allowed p pair) region b → is_seen region (set_of (family_of p points) pair.0) (set_of (family_of p points) pair.1) ≡ b
served_so p points s pair i region true forced =
    let shows = serving_shows p points s in
    let found = s.needed (InRegion pair region) (i, forced) in
    let placed = place_of found.member in
    let lies : lies_in region pair (point_at points placed.place) ≡ true = ap (lies_in region pair) (placed.is []) ∙ found.passes in
    seen_from region (set_of (family_of p points) pair.0) (set_of (family_of p points) pair.1) placed.place (sym (lies_shown shows region pair placed.place) ∙ lies)
served_so p points s pair i region false forced =
    let shows = serving_shows p points s in
    false_from_ne_true (is_seen region (set_of (family_of p points) pair.0) (set_of (family_of p points) pair.1)) (λ seen.
    let x = seen_at region (set_of (family_of p points) pair.0) (set_of (family_of p points) pair.1) seen in
    let lies : lies_in region pair (point_at points x.0) ≡ true = lies_shown shows region pair x.0 ∙ x.1 in
    let bit = lies_bit region pair (point_at points x.0) lies in
    both_ways (lies_in region pair (point_at points x.0)) ((element_pointed p points s x.0 bit.0 bit.1).apart pair region i forced) lies)

-- each pair has an allowed relation
served_related : (p : Problem) (points : List (List Bool)) → Serves p points → all_whole p ≡ true → all_allow p ≡ true → (pair : ℕ × ℕ) → In pair (pairs p) →
    has (allowed p pair) (relation_of (set_of (family_of p points) pair.0) (set_of (family_of p points) pair.1)) ≡ true
served_related p points s whole allow pair i =
    let xs = set_of (family_of p points) pair.0 in
    let ys = set_of (family_of p points) pair.1 in
    ap (has (allowed p pair)) (relation_of-by xs ys) ∙
    whole_has (allowed p pair) (not (is_subset xs ys)) (have_common xs ys) (not (is_subset ys xs))
    (all_at (λ pair. is_whole_set (allowed p pair)) whole i)
    (not-true (is_empty_set (allowed p pair)) (all_at (λ pair. not (is_empty_set (allowed p pair))) allow i))
    (served_so p points s pair i)

-- the sets of such a family are of places of points
places_high : (c k : ℕ) (points : List (List Bool)) (x : ℕ) → In x (places_with c k points) → x < k + length points
places_high c k [] x i = elim i [ ]
places_high c k (bits ∷ rest) x i =
    split (bit_of bits c) (λ j. places_high c (k + 1) rest x j) i
  where
    later : (In x (places_with c (k + 1) rest) → x < (k + 1) + length rest) → In x (places_with c (k + 1) rest) → x < k + length (bits ∷ rest)
    later high j = let below = high j in omega arith

    split : (b : Bool) → (In x (places_with c (k + 1) rest) → x < (k + 1) + length rest) →
        In x (cond b (k ∷ places_with c (k + 1) rest) (places_with c (k + 1) rest)) → x < k + length (bits ∷ rest)
    split true high (here e) = omega arith
    split true high (there j) = later high j
    split false high j = later high j

served_fits : (p : Problem) (points : List (List Bool)) → fits_concepts p (family_of p points) ≡ true
served_fits p points =
    and_from (length (map (λ c. places_with c 0 points) (concepts p)) == concept_count p) (list_all (list_all (λ x. nat_lt x (length points))) (map (λ c. places_with c 0 points) (concepts p)))
    (eq-eqb (length (map (λ c. places_with c 0 points) (concepts p))) (concept_count p) (length-map-range_with_len (λ c. places_with c 0 points) 0 (concept_count p)))
    (all_from (list_all (λ x. nat_lt x (length points))) (map (λ c. places_with c 0 points) (concepts p)) (λ set i.
    let image : IsImage (λ c. places_with c 0 points) set (concepts p) = from_map (λ c. places_with c 0 points) (concepts p) i in
    all_from (λ x. nat_lt x (length points)) set (λ x j.
    let high : x < 0 + length points = places_high image.source 0 points x (subst (λ s. In x s) image.is j) in
    lt-ltb x (length points) (omega arith))))

served_nonempty : (p : Problem) (points : List (List Bool)) → Serves p points → p.switches.nonempty ≡ true → none_empty p (family_of p points) ≡ true
served_nonempty p points s on =
    all_from (λ c. not (length (set_of (family_of p points) c) == 0)) (concepts p) (λ c i.
    let found = s.needed (InConcept c) (on, i) in
    let placed = place_of found.member in
    element_so (set_of (family_of p points) c) placed.place
    (shown_in (serving_shows p points s) placed.place c (ap (λ bits. bit_of bits c) (placed.is []) ∙ found.passes)))

-- points that serve a problem of whole allowed sets meet it
pub served_meets : (p : Problem) → is_problem p ≡ true → all_whole p ≡ true → (points : List (List Bool)) → all_allow p ≡ true → serves p points ≡ true →
    meets p (family_of p points) ≡ true
served_meets p problem whole points allow served =
    let s = serve_parts p points served in
    let rules = rules_from p (serving_shows p points s) (λ x c b. (element_pointed p points s x c b).structure) in
    met_whole p (family_of p points) (record {
      fits = served_fits p points;
      within = rules.within;
      apart = rules.apart;
      covered = rules.covered;
      nonempty = implies_from p.switches.nonempty (none_empty p (family_of p points)) (served_nonempty p points s);
      said = all_from (holds (family_of p points)) (constraints p) (λ c i.
          allows_at (constraints p) (c.left, c.right) (relation_of (set_of (family_of p points) c.left) (set_of (family_of p points) c.right)) c
          (served_related p points s whole allow (c.left, c.right) (In-pairs p (c.left, c.right) (stated_is_pair p problem c i)))
          i (about_from (c.left, c.right) c refl refl));
      summed = rules.summed;
    })

-- a point for each of some needs
record Chosen (p : Problem) (list : List Need) : Type 0 where
  points : List (List Bool)
  each : list_all (is_point p) points ≡ true
  one : each_has_one list points ≡ true

choose_points : (p : Problem) (list : List Need) → ((need : Need) → In need list → HasPoint p need) → Chosen p list
choose_points p [] has_point = record { points = []; each = refl; one = refl }
choose_points p (need ∷ rest) has_point =
    let r = choose_points p rest (λ n i. has_point n (there i)) in
    let h = has_point need (here refl) in
    record {
      points = h.0 ∷ r.points;
      each = and_from (is_point p h.0) (list_all (is_point p) r.points) h.1 r.each;
      one = and_from (list_any (is_in_need need) (h.0 ∷ r.points)) (each_has_one rest (h.0 ∷ r.points))
          (any_from (is_in_need need) (here {ys = r.points} refl) h.2)
          (all_so (λ n. list_any (is_in_need n) r.points) (λ n. list_any (is_in_need n) (h.0 ∷ r.points)) rest r.one (λ n i found.
          or_right (is_in_need n h.0) (list_any (is_in_need n) r.points) found));
    }

-- an alive problem has points that serve it
pub record IsServed (p : Problem) : Type 0 where
  pub points : List (List Bool)
  pub serve : serves p points ≡ true

pub alive_is_served : (p : Problem) → IsAlive p → IsServed p
alive_is_served p alive =
    let c = choose_points p (needs p) (λ need i. alive.points need (contains_from_in i)) in
    record { points = c.points; serve = and_from (list_all (is_point p) c.points) (each_has_one (needs p) c.points) c.each c.one }

-- so one of whole allowed sets is met
pub alive_is_met : (p : Problem) → is_problem p ≡ true → all_whole p ≡ true → IsAlive p → IsMet p
alive_is_met p problem whole alive =
    let s = alive_is_served p alive in
    (family_of p s.points, served_meets p problem whole s.points alive.allow s.serve)
