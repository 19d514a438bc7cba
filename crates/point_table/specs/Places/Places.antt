-- Points by their places: which of them are live, and which are used.
use Rattle.bit_rows.specs.Rows.{has_bit}
use Rattle.std.specs.Prelude.{Bool, List, false, if◌then◌else◌, length, not, slice_index_or, true, ℕ, ◌&&◌, ◌*◌, ◌++◌, ◌<◌, ◌∷◌, [], ◌≡◌, ◌≢◌, ◌≤◌}
use Rattle.rcc5_core.specs.declared.Regions.{Regions}
use Rattle.world_model.specs.Alive.{avoids_by, bit_of, point_at}

-- one bit of a row is set as is said
pub record IsChanged (old new : List ℕ) (place : ℕ) (bit : Bool) : Type 0 where
  pub here : has_bit new place ≡ bit
  pub others : (k : ℕ) → k ≢ place → has_bit new k ≡ has_bit old k

-- points, each a bit for each of so many concepts, and the rows of the places that are live and that are used
pub record PlaceState : Type 0 where
  pub concepts : ℕ
  pub points : List (List Bool)
  pub live : List ℕ
  pub used : List ℕ

-- a row for each concept says which points it has, and only points are live
pub record AreTold (points : List (List Bool)) (rows : List (List ℕ)) (live : List ℕ) : Type 0 where
  pub told : (c k : ℕ) → c < length rows → k < length points → has_bit (slice_index_or rows c []) k ≡ bit_of (point_at points k) c
  pub below : (k : ℕ) → has_bit live k ≡ true → k < length points
  pub room : length points ≤ 64 * length live

-- whether a concept has a point or lacks it, as is said
abbrev pub is_as : List Bool → ℕ × Bool → Bool
is_as bits side = if side.1 then bit_of bits side.0 else not (bit_of bits side.0)

-- whether the point at a place is as is said of two concepts
abbrev pub are_as : List (List Bool) → ℕ × Bool → ℕ × Bool → ℕ → Bool
are_as points one other k = is_as (point_at points k) one && is_as (point_at points k) other

-- whether it is live too
abbrev pub meets : PlaceState → ℕ × Bool → ℕ × Bool → ℕ → Bool
meets s one other k = has_bit s.live k && are_as s.points one other k

-- whether it is live and used
abbrev pub shows_at : PlaceState → ℕ × Bool → ℕ × Bool → ℕ → Bool
shows_at s one other k = has_bit s.used k && meets s one other k

-- whether the point at a place is in no region of a pair that is forced empty
abbrev pub is_clear : List (List Bool) → ℕ × ℕ → Regions → ℕ → Bool
is_clear points pair regions k = avoids_by regions (bit_of (point_at points k) pair.0) (bit_of (point_at points k) pair.1)

-- whether a place is live, as is said of two concepts, and clear of those regions
abbrev pub meets_clear : PlaceState → ℕ × Bool → ℕ × Bool → ℕ × ℕ → Regions → ℕ → Bool
meets_clear s one other pair regions k = meets s one other k && is_clear s.points pair regions k

-- whether it is live and used, and not clear of them
abbrev pub is_at_risk : PlaceState → ℕ × ℕ → Regions → ℕ → Bool
is_at_risk s pair regions k = has_bit s.used k && (has_bit s.live k && not (is_clear s.points pair regions k))

-- the first place that is live and as is said of two concepts, in the words from one on
pub record IsNextMet (s : PlaceState) (from : ℕ) (one other : ℕ × Bool) (place : ℕ) : Type 0 where
  pub there : place < length s.points
  pub low : 64 * from ≤ place
  pub met : meets s one other place ≡ true
  pub before : (k : ℕ) → 64 * from ≤ k → k < place → meets s one other k ≡ false

-- a point is added, live and not used
pub record IsAdded (old new : PlaceState) (bits : List Bool) (place : ℕ) : Type 0 where
  pub concepts : new.concepts ≡ old.concepts
  pub last : place ≡ length old.points
  pub points : new.points ≡ old.points ++ bits ∷ []
  pub live : IsChanged old.live new.live place true
  pub used : IsChanged old.used new.used place false

-- a place is neither live nor used any more
pub record IsStruck (old new : PlaceState) (place : ℕ) : Type 0 where
  pub concepts : new.concepts ≡ old.concepts
  pub points : new.points ≡ old.points
  pub live : IsChanged old.live new.live place false
  pub used : IsChanged old.used new.used place false

-- a place is live again
pub record IsRevived (old new : PlaceState) (place : ℕ) : Type 0 where
  pub concepts : new.concepts ≡ old.concepts
  pub points : new.points ≡ old.points
  pub live : IsChanged old.live new.live place true
  pub used : new.used ≡ old.used

-- all points are live, and none is used
pub record AreRevived (old new : PlaceState) : Type 0 where
  pub concepts : new.concepts ≡ old.concepts
  pub points : new.points ≡ old.points
  pub live : (k : ℕ) → k < length old.points → has_bit new.live k ≡ true
  pub used : (k : ℕ) → has_bit new.used k ≡ false

-- all points that are as is said of two concepts are struck out
pub record AreStruck (old new : PlaceState) (one other : ℕ × Bool) : Type 0 where
  pub concepts : new.concepts ≡ old.concepts
  pub points : new.points ≡ old.points
  pub live : (k : ℕ) → has_bit new.live k ≡ (has_bit old.live k && not (are_as old.points one other k))

-- a place is used
pub record IsUsed (old new : PlaceState) (place : ℕ) : Type 0 where
  pub concepts : new.concepts ≡ old.concepts
  pub points : new.points ≡ old.points
  pub live : new.live ≡ old.live
  pub used : IsChanged old.used new.used place true
