-- Witnesses that show that a relation leads on.
use Rattle.std.proofs.Common.{◌≡◌, ℕ, zero, suc, ◌+◌, ◌*◌, ◌/◌, ◌%◌, ◌-◌, ◌<◌, true, false, not, cond, inl, inr, List, [], ◌∷◌, ◌++◌, length, get_or, refl, sym, ap, ◌∙◌, subst, arith}
use Rattle.std.specs.Prelude.{IsTrue, ◌==◌, ◌↔◌}
use Rattle.std.proofs.lemmas.Bool.{and_from, and_parts, cases_eq, cases_lt, false≢true, false_from_ne_true, lt-ltb}
use Rattle.std.proofs.lemmas.List.{length-append, get_or_push}
use Rattle.bit_rows.specs.Rows.{has_bit}
use Rattle.point_encode.specs.Model.Forced.{need_at, need_count, region_with}
use Rattle.rcc5_core.specs.Region.{row_of, same_word, word_at}
use Rattle.rcc5_core.specs.RelationSet.{has, is_empty_set}
use Rattle.rcc5_core.specs.declared.Occupancy.{Occupancy}
use Rattle.rcc5_core.specs.declared.Occupancy.TheVariants.{Empty, Occupied, Free}
use Rattle.rcc5_core.specs.declared.Regions.{Regions}
use Rattle.rcc5_core.specs.declared.Rel.{Rel}
use Rattle.rcc5_core.specs.declared.Rel.TheVariants.{Equals}
use Rattle.point_encode.specs.Numbers.{is_needed}
use Rattle.point_table.specs.Places.Places.{PlaceState, meets, are_as, shows_at}
use Rattle.world_model.specs.Alive.{InConcept, InRegion, HasPoint, IsAlive, all_allow, allowed, avoids, bit_of, is_in_need, is_point, lies_by, lies_in, needs, point_at, problem_at}
use Rattle.world_model.specs.Laws.{PositionsNarrow}
use Rattle.world_model.specs.Node.{pair_at}
use Rattle.world_model.specs.Points.{forced_at}
use Rattle.world_model.specs.Problem.{Problem, pairs, pair_count}
use Rattle.world_model.proofs.Members.{In, In-get_or, all_at, in_from_contains}
use Rattle.point_pool.specs.Cursors.{IsOpen}
use Rattle.point_pool.specs.declared.pool.Pool.{Pool}
use Rattle.point_pool.specs.declared.shows.Seen.{Seen}
use Rattle.point_pool.specs.Pools.{AreSeen, IsPool, IsSeenAt, IsSeenNext, ShowPart, is_seen}
use Rattle.point_pool.proofs.Cursors.{forced_inside, open_more}
use Rattle.point_pool.proofs.Going.{open_allows}
use Rattle.point_pool.proofs.Numbering.{IsNumbered, from_below, needs_numbered}
use Rattle.point_pool.proofs.Prefixes.{needed_before, needed_by, point_more}
use Rattle.point_pool.proofs.Serving.{all_from_places}
use Rattle.point_pool.proofs.Settling.{served_now}
use Rattle.point_pool.proofs.Starting.{avoids_parts}

-- a place that is shown is seen in its region
pub seen_at : (s : PlaceState) (pair : ℕ × ℕ) (part place : ℕ) → part < 3 → shows_at s (pair.0, not (part == 2)) (pair.1, not (part == 0)) place ≡ true → IsSeenAt s pair part place
seen_at s pair part place small h =
    let one = and_parts (has_bit s.used place) (meets s (pair.0, not (part == 2)) (pair.1, not (part == 0)) place) h in
    let two = and_parts (has_bit s.live place) (are_as s.points (pair.0, not (part == 2)) (pair.1, not (part == 0)) place) one.1 in
    record { live = two.0; used = one.0; lies = by part small two.1 }
  where
    by : (part : ℕ) → part < 3 → are_as s.points (pair.0, not (part == 2)) (pair.1, not (part == 0)) place ≡ true → lies_in (region_with part) pair (point_at s.points place) ≡ true
    by zero small h = h
    by (suc zero) small h = h
    by (suc (suc zero)) small h = h
    by (suc (suc (suc part))) small h = absurd (omega arith)

-- and one that is seen is shown
pub shown_at : (s : PlaceState) (pair : ℕ × ℕ) (part place : ℕ) → part < 3 → IsSeenAt s pair part place → shows_at s (pair.0, not (part == 2)) (pair.1, not (part == 0)) place ≡ true
shown_at s pair part place small seen =
    and_from (has_bit s.used place) (meets s (pair.0, not (part == 2)) (pair.1, not (part == 0)) place) seen.used
    (and_from (has_bit s.live place) (are_as s.points (pair.0, not (part == 2)) (pair.1, not (part == 0)) place) seen.live (by part small seen.lies))
  where
    by : (part : ℕ) → part < 3 → lies_in (region_with part) pair (point_at s.points place) ≡ true → are_as s.points (pair.0, not (part == 2)) (pair.1, not (part == 0)) place ≡ true
    by zero small h = h
    by (suc zero) small h = h
    by (suc (suc zero)) small h = h
    by (suc (suc (suc part))) small h = absurd (omega arith)

-- a region is seen as its number among the three says
pub seen_part : (w : Pool) (seen : Seen) → AreSeen w seen → (part : ℕ) → part < 3 → IsTrue (is_seen seen part) ↔ IsSeenNext w (not (part == 2)) (not (part == 0))
seen_part w seen are zero small = are.left_only
seen_part w seen are (suc zero) small = are.both
seen_part w seen are (suc (suc zero)) small = are.right_only
seen_part w seen are (suc (suc (suc part))) small = absurd (omega arith)

-- so what is forced of it is shown, if it is empty and not seen, or occupied and seen
pub part_shown : (w : Pool) (seen : Seen) → AreSeen w seen → (regions : Regions) (part : ℕ) → part < 3 →
    (word_at regions (region_with part) ≡ Empty → is_seen seen part ≡ false) → (word_at regions (region_with part) ≡ Occupied → is_seen seen part ≡ true) →
    ShowPart w.places (pair_at w.cursor.problem (length w.cursor.path)) regions part
part_shown w seen are regions part small empty occupied =
    let same = seen_part w seen are part small in
    let pair = pair_at w.cursor.problem (length w.cursor.path) in
    record {
      empty = λ e place at. false≢true (sym (empty e) ∙ same.1 (record { place = place; passes = shown_at w.places pair part place small at }));
      occupied = λ e. let found = same.0 (occupied e) in (found.place, seen_at w.places pair part found.place small found.passes);
    }

-- used points are in no region that the relation empties
pub used_avoids : (s : PlaceState) (pair : ℕ × ℕ) (regions : Regions) → ((part : ℕ) → part < 3 → ShowPart s pair regions part) → (place : ℕ) → has_bit s.live place ≡ true → has_bit s.used place ≡ true →
    avoids (point_at s.points place) (pair, regions) ≡ true
used_avoids s pair regions show place live used =
    let bits = point_at s.points place in
    avoids_parts regions (bit_of bits pair.0) (bit_of bits pair.1) (λ part small e.
    false_from_ne_true (lies_by (region_with part) (bit_of bits pair.0) (bit_of bits pair.1)) (λ lies. (show part small).empty e place (record { live = live; used = used; lies = lies })))

-- what holds of each of three parts
pub three_parts : (P : ℕ → Type 0) → P 0 → P 1 → P 2 → (part : ℕ) → part < 3 → P part
three_parts P a b c zero small = a
three_parts P a b c (suc zero) small = b
three_parts P a b c (suc (suc zero)) small = c
three_parts P a b c (suc (suc (suc part))) small = absurd (omega arith)

pub is_occupied : (o : Occupancy) → same_word o Occupied ≡ true → o ≡ Occupied
is_occupied Empty h = absurd (false≢true h)
is_occupied Occupied h = refl
is_occupied Free h = absurd (false≢true h)

-- so the prefix with the relation is alive
pub shown_alive : PositionsNarrow → (w : Pool) (rel : Rel) → IsPool w → w.waiting ≡ [] → IsOpen w.cursor.problem w.cursor.path → length w.cursor.path < pair_count w.cursor.problem →
    all_allow (problem_at w.cursor.problem w.cursor.path) ≡ true → has (allowed w.cursor.problem (pair_at w.cursor.problem (length w.cursor.path))) rel ≡ true →
    ((part : ℕ) → part < 3 → ShowPart w.places (pair_at w.cursor.problem (length w.cursor.path)) (row_of rel) part) → IsAlive (problem_at w.cursor.problem (w.cursor.path ++ rel ∷ []))
shown_alive law w rel is none o within allow allows show = record {
  allow = all_from_places (λ pair. not (is_empty_set (allowed q pair))) (pairs p) (0, 0) (λ k h. elim (cases_lt k (length more)) [
    | inl inside ↦ open_allows law p more k opened inside
    | inr past ↦
        ap (λ set. not (is_empty_set set)) (law.beyond p more k past h ∙ sym (law.beyond p m k (omega (arith, longer)) h)) ∙
        all_at (λ pair. not (is_empty_set (allowed (problem_at p m) pair))) allow (In-get_or (pairs p) k (0, 0) h)
  ]);
  points = λ need there.
      let n : IsNumbered q need (need_count q) = from_below q (need_count q) need (subst (λ ns. In need ns) (needs_numbered q) (in_from_contains (needs q) there)) in
      subst (λ x. HasPoint q x) (sym n.is) (has_one n.number n.below n.needed);
}
  where
    p : Problem
    p = w.cursor.problem

    m : List Rel
    m = w.cursor.path

    more : List Rel
    more = m ++ rel ∷ []

    q : Problem
    q = problem_at p more

    longer : length more ≡ length m + 1
    longer = length-append m (rel ∷ [])

    opened : IsOpen p more
    opened = open_more p m rel o within allows

    -- a used point of the prefix is one of the longer one
    point_of : (place : ℕ) → has_bit w.places.live place ≡ true → has_bit w.places.used place ≡ true → is_point q (point_at w.places.points place) ≡ true
    point_of place live used =
        point_more law p m rel (point_at w.places.points place) opened (is.kept.pooled.live place live) (used_avoids w.places (pair_at p (length m)) (row_of rel) show place live used)

    has_one : (number : ℕ) → number < need_count p → is_needed q number ≡ true → HasPoint q (need_at p number)
    has_one number below needed = elim (cases_eq (number / 3) (length m)) [
      | inr apart ↦
          let served = served_now w number is none below (needed_before law p m rel number opened o (λ small here. apart here) needed) in
          let place = get_or w.witness.items number 0 in
          (point_at w.places.points place, point_of place served.fit.live served.used, served.fit.in_need)
      | inl here ↦
          let small : number < 3 * pair_count p = omega (arith, here, within) in
          let part = number % 3 in
          let row : forced_at q (number / 3) ≡ row_of rel =
          ap (forced_at q) here ∙ forced_inside law p more (length m) opened (omega (arith, longer)) ∙ ap row_of (get_or_push m rel Equals (length m) refl) in
          let occupied = is_occupied (word_at (row_of rel) (region_with part)) (ap (λ r. same_word (word_at r (region_with part)) Occupied) (sym row) ∙ sym (needed_by q number small) ∙ needed) in
          let found = (show part (omega arith)).occupied occupied in
          let bits = point_at w.places.points found.0 in
          let is_there : need_at p number ≡ InRegion (pair_at p (length m)) (region_with part) =
          ap (λ b. cond b (InRegion (pair_at p (number / 3)) (region_with part)) (InConcept (number - 3 * pair_count p))) (lt-ltb number (3 * pair_count p) small) ∙
          ap (λ k. InRegion (pair_at p k) (region_with part)) here in
          (bits, point_of found.0 found.1.live found.1.used, subst (λ need. IsTrue (is_in_need need bits)) (sym is_there) found.1.lies)
    ]
