-- Points that were found, at a prefix: which of them are points of it, and which needs they serve.
use Rattle.bit_rows.specs.Rows.{SomePlace, has_bit}
use Rattle.point_encode.specs.Model.Forced.{need_at, need_count, region_with}
use Rattle.point_encode.specs.Numbers.{AreServing, is_needed, needs_below}
use Rattle.point_table.specs.Places.Places.{IsStruck, PlaceState, shows_at}
use Rattle.point_pool.specs.declared.pool.Pool.{Pool}
use Rattle.point_pool.specs.declared.shows.Seen.{Seen}
use Rattle.rcc5_core.specs.Region.{row_of, word_at}
use Rattle.rcc5_core.specs.declared.Occupancy.TheVariants.{Empty, Occupied}
use Rattle.rcc5_core.specs.declared.Regions.{Regions}
use Rattle.rcc5_core.specs.declared.Rel.{Rel}
use Rattle.std.specs.Prelude.{All, Bool, Contains, IsTrue, List, [], false, length, slice_index_or, take, true, ℕ, ◌*◌, ◌++◌, ◌+◌, ◌<◌, ◌∷◌, ◌≡◌, ◌≢◌, ◌≤◌, ◌==◌, ◌↔◌, ◌⊎◌, if◌then◌else◌}
use Rattle.world_model.specs.Alive.{HasPoint, Need, avoids_by, bit_of, is_in_need, is_point, lies_in, meets_trees, point_at, problem_at}
use Rattle.world_model.specs.Node.{pair_at}
use Rattle.world_model.specs.Problem.{Problem, concept_count}

-- the numbers of the needs that the point at a place serves
abbrev pub served_at : List (List ℕ) → ℕ → List ℕ
served_at serves place = slice_index_or serves place []

-- a place has a point of a problem
pub record IsPlaceOf (p : Problem) (points : List (List Bool)) (place : ℕ) : Type 0 where
  pub there : place < length points
  pub point : IsTrue (is_point p (point_at points place))

-- points meet the rules of the trees, the live ones are points of the prefix, and each one that was struck out since the prefix had
-- so many relations is a point of its first ones
pub record ArePooled (p : Problem) (m : List Rel) (s : PlaceState) (struck marks : List ℕ) : Type 0 where
  pub concepts : s.concepts ≡ concept_count p
  pub trees : All (λ bits. IsTrue (meets_trees p bits)) s.points
  pub live : (place : ℕ) → has_bit s.live place ≡ true → IsTrue (is_point (problem_at p m) (point_at s.points place))
  pub sound : (n k : ℕ) → n ≤ length m → n < length marks → slice_index_or marks n 0 ≤ k → k < length struck → IsPlaceOf (problem_at p (take n m)) s.points (slice_index_or struck k 0)

-- a place has a live point that is in a need
pub record IsFit (s : PlaceState) (need : Need) (place : ℕ) : Type 0 where
  pub there : place < length s.points
  pub live : has_bit s.live place ≡ true
  pub in_need : IsTrue (is_in_need need (point_at s.points place))

-- the witness of a need is fit and used, and has its number
pub record IsWitness (p : Problem) (s : PlaceState) (serves : List (List ℕ)) (number place : ℕ) : Type 0 where
  pub fit : IsFit s (need_at p number) place
  pub used : has_bit s.used place ≡ true
  pub listed : Contains (served_at serves place) number

-- a place has a point of the prefix that is in a need
abbrev pub FitsNeed : Pool → ℕ → ℕ → Type 0
FitsNeed w number place = IsFit w.places (need_at w.cursor.problem number) place

-- a need is served by its witness
abbrev pub HasWitness : Pool → ℕ → Type 0
HasWitness w number = IsWitness w.cursor.problem w.places w.serves.items number (slice_index_or w.witness.items number 0)

-- each number that counts waits, or it is served by its witness
abbrev pub AreWatched : Pool → (ℕ → Type 0) → Type 0
AreWatched w counts = (number : ℕ) → number < need_count w.cursor.problem → counts number → Contains w.waiting number ⊎ HasWitness w number

-- what is kept of a pool: its points, one entry for each need, and one list of needs for each point
pub record IsKept (w : Pool) : Type 0 where
  pub pooled : ArePooled w.cursor.problem w.cursor.path w.places w.struck.items w.marks.items
  pub counted : length w.serves.items ≡ length w.places.points
  pub numbered : length w.witness.items ≡ need_count w.cursor.problem
  pub slotted : length w.slots.items ≡ need_count w.cursor.problem

-- a number is a need at the prefix
abbrev pub IsNeeded : Pool → ℕ → Type 0
IsNeeded w number = IsTrue (is_needed (problem_at w.cursor.problem w.cursor.path) number)

-- each need waits or is served
pub record IsPool (w : Pool) : Type 0 where
  pub kept : IsKept w
  pub marked : length w.marks.items ≤ length w.cursor.path
  pub watched : AreWatched w (IsNeeded w)

-- each need does but those from one number on and below another
pub record IsPoolBut (w : Pool) (low high : ℕ) : Type 0 where
  pub kept : IsKept w
  pub marked : length w.marks.items ≤ length w.cursor.path
  pub watched : AreWatched w (λ number. IsNeeded w number × (low ≤ number → number < high → ⊥))

-- each need does, while points are struck out for one more relation
pub record IsStriking (w : Pool) : Type 0 where
  pub kept : IsKept w
  pub marked : length w.marks.items ≤ length w.cursor.path + 1
  pub watched : AreWatched w (IsNeeded w)

-- a place has a live point
pub record IsAdded (w : Pool) (bits : List Bool) (place : ℕ) : Type 0 where
  pub there : place < length w.places.points
  pub is : point_at w.places.points place ≡ bits
  pub live : has_bit w.places.live place ≡ true

-- a point is struck out: the needs that it served wait, and all else stays
pub record StrikesOut (old new : Pool) (place : ℕ) : Type 0 where
  pub cursor : new.cursor ≡ old.cursor
  pub places : IsStruck old.places new.places place
  pub struck : new.struck.items ≡ old.struck.items ++ place ∷ []
  pub marks : new.marks.items ≡ old.marks.items
  pub witness : new.witness.items ≡ old.witness.items
  pub slots : new.slots.items ≡ old.slots.items
  pub counted : length new.serves.items ≡ length old.serves.items
  pub others : (other : ℕ) → other ≢ place → served_at new.serves.items other ≡ served_at old.serves.items other
  pub moved : (number : ℕ) → Contains (served_at old.serves.items place) number → Contains new.waiting number
  pub stay : (number : ℕ) → Contains old.waiting number → Contains new.waiting number

-- no point becomes live, and all stay where they are
pub record IsFewer (old new : PlaceState) : Type 0 where
  pub concepts : new.concepts ≡ old.concepts
  pub points : new.points ≡ old.points
  pub live : (place : ℕ) → has_bit new.live place ≡ true → has_bit old.live place ≡ true

-- no live point that two concepts have or lack, as is said, is in a region of theirs that is forced empty
abbrev pub CellAvoids : PlaceState → Regions → ℕ × Bool → ℕ × Bool → Type 0
CellAvoids s regions one other =
    (place : ℕ) → has_bit s.live place ≡ true → bit_of (point_at s.points place) one.0 ≡ one.1 → bit_of (point_at s.points place) other.0 ≡ other.1 → IsTrue (avoids_by regions one.1 other.1)

-- no live point is in a region of a pair that is forced empty
abbrev pub AllAvoid : PlaceState → ℕ × ℕ → Regions → Type 0
AllAvoid s pair regions = (place : ℕ) → has_bit s.live place ≡ true → IsTrue (avoids_by regions (bit_of (point_at s.points place) pair.0) (bit_of (point_at s.points place) pair.1))

-- a place is listed from one number on
pub record IsListed (list : List ℕ) (start place : ℕ) : Type 0 where
  pub number : ℕ
  pub after : start ≤ number
  pub within : number < length list
  pub is : slice_index_or list number 0 ≡ place

-- a live point that is used is in a region of a pair, by its number among the three
pub record IsSeenAt (s : PlaceState) (pair : ℕ × ℕ) (part place : ℕ) : Type 0 where
  pub live : has_bit s.live place ≡ true
  pub used : has_bit s.used place ≡ true
  pub lies : lies_in (region_with part) pair (point_at s.points place) ≡ true

-- the live points that are used show in a region what is forced of it
pub record ShowPart (s : PlaceState) (pair : ℕ × ℕ) (regions : Regions) (part : ℕ) : Type 0 where
  pub empty : word_at regions (region_with part) ≡ Empty → (place : ℕ) → IsSeenAt s pair part place → ⊥
  pub occupied : word_at regions (region_with part) ≡ Occupied → (place : ℕ) × IsSeenAt s pair part place

-- a live point that is used has the concepts of the next pair or lacks them, as is said
abbrev pub IsSeenNext : Pool → Bool → Bool → Type 0
IsSeenNext w left right =
    SomePlace (shows_at w.places ((pair_at w.cursor.problem (length w.cursor.path)).0, left) ((pair_at w.cursor.problem (length w.cursor.path)).1, right))

-- the regions of the next pair in which a live point is that is used
pub record AreSeen (w : Pool) (seen : Seen) : Type 0 where
  pub left_only : IsTrue seen.left_only ↔ IsSeenNext w true false
  pub both : IsTrue seen.both ↔ IsSeenNext w true true
  pub right_only : IsTrue seen.right_only ↔ IsSeenNext w false true

-- whether one is in a region, by its number among the three
abbrev pub is_seen : Seen → ℕ → Bool
is_seen seen part = if part == 0 then seen.left_only else (if part == 1 then seen.both else seen.right_only)

-- the numbers of the needs that a relation has of its pair are listed
abbrev pub HasOwn : List ℕ → ℕ → Rel → Type 0
HasOwn list pair rel = (part : ℕ) → part < 3 → word_at (row_of rel) (region_with part) ≡ Occupied → Contains list (3 * pair + part)

-- each need of the prefix with a relation more is listed, or has a point there
abbrev pub AreAtRisk : Pool → Rel → List ℕ → Type 0
AreAtRisk w rel list =
    (number : ℕ) → number < need_count w.cursor.problem → IsTrue (is_needed (problem_at w.cursor.problem (w.cursor.path ++ rel ∷ [])) number) →
    Contains list number ⊎ HasPoint (problem_at w.cursor.problem (w.cursor.path ++ rel ∷ [])) (need_at w.cursor.problem number)

-- points that are gathered from a pool's serve the needs with a number below n; those at the places that are taken are there
pub record AreGathered (w : Pool) (n : ℕ) (list : List (List Bool)) (taken : List Bool) : Type 0 where
  pub counted : length taken ≡ length w.places.points
  pub there : (place : ℕ) → IsTrue (slice_index_or taken place false) → Contains list (point_at w.places.points place)
  pub serving : AreServing (problem_at w.cursor.problem w.cursor.path) (needs_below (problem_at w.cursor.problem w.cursor.path) n) list

-- a pool at a problem
pub record IsPoolAt (p : Problem) (w : Pool) : Type 0 where
  pub pool : IsPool w
  pub problem : w.cursor.problem ≡ p
