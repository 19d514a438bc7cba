-- Frames of problems and their paths: whether one is alive, and the frame after one pair more was narrowed.
use Rattle.std.proofs.Common.{◌≡◌, ℕ, ◌<◌, ◌↔◌, Bool, true, false, ◌&&◌, List, [], length, refl, sym, ap, ◌∙◌, subst, arith}
use Rattle.std.specs.Prelude.{nat_lt}
use Rattle.std.proofs.lemmas.Bool.{and_from, and_parts, lt-ltb}
use Rattle.rcc5_core.specs.declared.RelSet.{RelSet}
use Rattle.rcc5_core.specs.declared.Region.{Region}
use Rattle.rcc5_core.specs.Region.{forced_regions}
use Rattle.world_model.specs.Problem.{Problem, Constraint, concept_count, pairs, pair_count}
use Rattle.world_model.specs.Node.{pair_at}
use Rattle.world_model.specs.Alive.{allowed, bit_of, lies_in, is_point, obeys, forced_pairs, Need, needs, is_in_need, IsAlive, all_allow, point_at, lies_by, avoids_by}
use Rattle.world_model.specs.Alive.Need.{InRegion, InConcept}
use Rattle.world_model.specs.Trial.{points_by_trial, bit_lists}
use Rattle.world_model.proofs.Members.{In-get_or, In-range, from_range, from_filter, place_of, in_from_contains, contains_from_in, IsPlaced}
use Rattle.world_model.proofs.PointAlive.{IsNeed, In-needs, from_needs}
use Rattle.world_model.proofs.PointPositions.{with_narrowings}
use Rattle.world_model.proofs.TrialPoints.{in_points}
use Rattle.bit_rows.specs.Rows.{SomePlace, BitRows, bit_in}
use Rattle.world_model.specs.Points.{forced_at}
use Rattle.point_ladder.specs.Bounds.{HoldsPoints}
use Rattle.point_frames.specs.Frames.{is_occupied, AreWithin, Satisfies, IsAliveFrame, AreRegionsMet, left_at, LeadsOn, IsNarrowed}
use Rattle.point_ladder.specs.Ladders.{AreServed, IsFrame, PairsMet, ConceptsMet, bits_at, ShowsPair}
use Rattle.point_frames.proofs.Frames.{some_alike, left_within}
use Rattle.point_ladder.proofs.Narrower.{IsNarrower, point_next, served_next, allow_next}

-- all points of a problem stand in the list of its points
pub holds_all : (p : Problem) → HoldsPoints p (points_by_trial p)
holds_all p bits h = contains_from_in (in_points p bits h)

-- a problem each of whose pairs allows something is alive just where all its points in a list that holds them serve its needs
pub served_is_alive : (q : Problem) (points : List (List Bool)) (mask : ℕ → Bool) → all_allow q ≡ true → HoldsPoints q points →
    ((k : ℕ) → mask k ≡ (nat_lt k (length points) && is_point q (point_at points k))) → AreServed q points mask ↔ IsAlive q
served_is_alive q points mask allow holds shows = (
  λ s. record {
    allow = allow;
    points = λ need i.
        let some = s need i in
        let k = some.place in
        let parts = and_parts (mask k) (is_in_need need (point_at points k)) some.passes in
        (point_at points k, (and_parts (nat_lt k (length points)) (is_point q (point_at points k)) (sym (shows k) ∙ parts.0)).1, parts.1);
  },
  λ alive need i.
      let point = alive.points need i in
      let placed : IsPlaced point.0 points = place_of (in_from_contains points (holds point.0 point.1)) in
      let k = placed.place in
      let here : is_point q (point_at points k) ≡ true = ap (is_point q) (placed.is []) ∙ point.1 in
      record {
        place = k;
        passes = and_from (mask k) (is_in_need need (point_at points k))
            (shows k ∙ and_from (nat_lt k (length points)) (is_point q (point_at points k)) (lt-ltb k (length points) placed.within) here)
            (ap (is_in_need need) (placed.is []) ∙ point.2);
      },
)

-- a frame says of the narrower problem which points serve its needs
served_by_frame : (b : Problem) (ns ms : List Constraint) (k : ℕ) (set : RelSet) (rows : BitRows) (points : List (List Bool)) (l r some : ℕ → Bool) → IsNarrower b ns ms k set →
    IsFrame (with_narrowings b ns) points rows → ShowsPair (pair_at b k) points l r → AreWithin some (bit_in rows 0) →
    (Satisfies rows rows.count some × AreRegionsMet (forced_regions set) l r some) ↔ AreServed (with_narrowings b ms) points some
served_by_frame b ns ms k set rows points l r some n frame shows within =
    let owes = frame.owes some within in
    let more = served_next b ns ms k set points some n in
    let pair = pair_at b k in (
      λ h. more.1 (
        owes.0 h.0,
        λ region occupied. some_alike (λ j. some j && lies_by region (l j) (r j)) (λ j. some j && lies_by region (bits_at points pair.0 j) (bits_at points pair.1 j))
            (λ j e. sym (same region j) ∙ e) (h.1 region occupied),
      ),
      λ s. let parts = more.0 s in (
        owes.1 parts.0,
        λ region occupied. some_alike (λ j. some j && lies_by region (bits_at points pair.0 j) (bits_at points pair.1 j)) (λ j. some j && lies_by region (l j) (r j))
            (λ j e. same region j ∙ e) (parts.1 region occupied),
      ),
    )
  where
    same : (region : Region) (j : ℕ) → (some j && lies_by region (l j) (r j)) ≡ (some j && lies_by region (bits_at points (pair_at b k).0 j) (bits_at points (pair_at b k).1 j))
    same region j = ap (λ x. some j && lies_by region x (r j)) (shows.left j) ∙ ap (λ x. some j && lies_by region (bits_at points (pair_at b k).0 j) x) (shows.right j)

-- the places that the set leaves are the points of the narrower problem
left_points : (b : Problem) (ns ms : List Constraint) (k : ℕ) (set : RelSet) (rows : BitRows) (points : List (List Bool)) (l r : ℕ → Bool) → IsNarrower b ns ms k set →
    IsFrame (with_narrowings b ns) points rows → ShowsPair (pair_at b k) points l r →
    (j : ℕ) → left_at rows l r (forced_regions set) j ≡ (nat_lt j (length points) && is_point (with_narrowings b ms) (point_at points j))
left_points b ns ms k set rows points l r n frame shows j =
    let pair = pair_at b k in
    let words = forced_regions set in
    let before = nat_lt j (length points) && is_point (with_narrowings b ns) (point_at points j) in
    ap (λ x. x && avoids_by words (l j) (r j)) (frame.mask j) ∙ ap (λ x. before && avoids_by words x (r j)) (shows.left j) ∙
    ap (λ x. before && avoids_by words (bits_at points pair.0 j) x) (shows.right j) ∙
    together (nat_lt j (length points)) (is_point (with_narrowings b ns) (point_at points j)) (avoids_by words (bits_at points pair.0 j) (bits_at points pair.1 j)) ∙
    ap (λ x. nat_lt j (length points) && x) (sym (point_next b ns ms k set (point_at points j) n))
  where
    together : (a b c : Bool) → ((a && b) && c) ≡ (a && (b && c))
    together true b c = refl
    together false b c = refl

-- the frame of the narrower problem
pub frame_next : (b : Problem) (ns ms : List Constraint) (k : ℕ) (set : RelSet) (old new : BitRows) (points : List (List Bool)) (l r : ℕ → Bool) → IsNarrower b ns ms k set →
    IsFrame (with_narrowings b ns) points old → ShowsPair (pair_at b k) points l r → IsNarrowed old new l r (forced_regions set) → IsFrame (with_narrowings b ms) points new
frame_next b ns ms k set old new points l r n frame shows o = record {
  width = o.width ∙ frame.width;
  mask = λ j. o.mask j ∙ left_points b ns ms k set old points l r n frame shows j;
  owes = λ some within.
      let inside : AreWithin some (left_at old l r (forced_regions set)) = λ j h. sym (o.mask j) ∙ within j h in
      let both = o.owes some inside in
      let served = served_by_frame b ns ms k set old points l r some n frame shows (λ j h. left_within old l r (forced_regions set) j (inside j h)) in
      (λ s. served.0 (both.0 s), λ h. both.1 (served.1 h));
}

-- its points are points of the other
pub holds_next : (b : Problem) (ns ms : List Constraint) (k : ℕ) (set : RelSet) (points : List (List Bool)) → IsNarrower b ns ms k set → HoldsPoints (with_narrowings b ns) points →
    HoldsPoints (with_narrowings b ms) points
holds_next b ns ms k set points n holds bits h =
    let pair = pair_at b k in
    holds bits (and_parts (is_point (with_narrowings b ns) bits) (avoids_by (forced_regions set) (bit_of bits pair.0) (bit_of bits pair.1)) (sym (point_next b ns ms k set bits n) ∙ h)).0

-- whether the narrower problem is alive, by the frame
pub alive_next : (b : Problem) (ns ms : List Constraint) (k : ℕ) (set : RelSet) (rows : BitRows) (points : List (List Bool)) (l r : ℕ → Bool) → IsNarrower b ns ms k set →
    IsFrame (with_narrowings b ns) points rows → ShowsPair (pair_at b k) points l r → all_allow (with_narrowings b ns) ≡ true → HoldsPoints (with_narrowings b ns) points →
    LeadsOn rows l r (forced_regions set) ↔ IsAlive (with_narrowings b ms)
alive_next b ns ms k set rows points l r n frame shows allow holds =
    let left = left_at rows l r (forced_regions set) in
    let served = served_by_frame b ns ms k set rows points l r left n frame shows (left_within rows l r (forced_regions set)) in
    let lives = served_is_alive (with_narrowings b ms) points left (allow_next b ns ms k set allow n) (holds_next b ns ms k set points n holds) (left_points b ns ms k set rows points l r n frame shows) in
    (λ h. lives.0 (served.0 h), λ a. served.1 (lives.1 a))

-- whether a problem is alive, by its own frame
pub alive_here : (q : Problem) (points : List (List Bool)) (rows : BitRows) → all_allow q ≡ true → HoldsPoints q points → IsFrame q points rows → IsAliveFrame rows ↔ IsAlive q
alive_here q points rows allow holds frame =
    let owes = frame.owes (bit_in rows 0) (λ k h. h) in
    let lives = served_is_alive q points (bit_in rows 0) allow holds frame.mask in
    (λ s. lives.0 (owes.0 s), λ a. owes.1 (lives.1 a))

-- each point of the table is one
pub table_point : (p : Problem) (k : ℕ) → k < length (points_by_trial p) → is_point p (point_at (points_by_trial p) k) ≡ true
table_point p k small = (from_filter (obeys p (forced_pairs p)) (bit_lists (concept_count p)) (In-get_or (points_by_trial p) k [] small)).1

-- the needs of a problem are the occupied regions of its pairs, and its concepts where none may be empty
pub served_by_parts : (p : Problem) (points : List (List Bool)) (some : ℕ → Bool) →
    (PairsMet p points (pair_count p) some × (p.switches.nonempty ≡ true → ConceptsMet points (concept_count p) some)) ↔ AreServed p points some
served_by_parts p points some = (
  λ h need i. each h need (from_needs p need (in_from_contains (needs p) i)),
  λ s. (
    λ k small region occupied. s (InRegion (pair_at p k) region) (contains_from_in (In-needs p (InRegion (pair_at p k) region) (In-get_or (pairs p) k (0, 0) small, record { same = occupied }))),
    λ on c small. s (InConcept c) (contains_from_in (In-needs p (InConcept c) (on, In-range 0 (concept_count p) c (omega arith) (omega (arith, small))))),
  ),
)
  where
    each : PairsMet p points (pair_count p) some × (p.switches.nonempty ≡ true → ConceptsMet points (concept_count p) some) → (need : Need) → IsNeed p need → SomePlace (λ k. some k && is_in_need need (point_at points k))
    each h (InRegion pair region) n =
        let placed : IsPlaced pair (pairs p) = place_of n.0 in
        let at : pair_at p placed.place ≡ pair = placed.is (0, 0) in
        let occupied : is_occupied (forced_at p placed.place) region ≡ true = ap (λ q. is_occupied (forced_regions (allowed p q)) region) at ∙ n.1.same in
        subst (λ q. SomePlace (λ k. some k && lies_in region q (point_at points k))) at
        (h.0 placed.place placed.within region occupied)
    each h (InConcept c) n = let range = from_range 0 (concept_count p) n.1 in h.1 n.0 c (omega (arith, range.1))
