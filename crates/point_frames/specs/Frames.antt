-- Frames: rows of places, those that are left, those that have to stay, and those of which one each has to.
use Rattle.std.specs.Prelude.{◌≡◌, ℕ, ◌<◌, ◌≤◌, ◌↔◌, Bool, true, ◌&&◌, IsTrue}
use Rattle.rcc5_core.specs.declared.Region.{Region}
use Rattle.rcc5_core.specs.declared.Region.TheVariants.{LeftOnly, Both, RightOnly}
use Rattle.rcc5_core.specs.declared.Regions.{Regions}
use Rattle.rcc5_core.specs.declared.Occupancy.{Occupancy}
use Rattle.rcc5_core.specs.declared.Occupancy.TheVariants.{Empty, Occupied}
use Rattle.rcc5_core.specs.Region.{word_at, same_word}
use Rattle.world_model.specs.Alive.{lies_by, avoids_by}
use Rattle.bit_rows.specs.declared.words.Cells.{Cells}
use Rattle.bit_rows.specs.Rows.{SomePlace, BitRows, bit_in, in_cells}
use Rattle.point_frames.specs.declared.frame.Seen.{Seen}

-- whether words say of a region that it is occupied
abbrev pub is_occupied : Regions → Region → Bool
is_occupied words region = same_word (word_at words region) Occupied

-- rows with words of which there are the two of a frame that are not open
abbrev pub IsLaid : BitRows → Type 0
IsLaid rows = (0 < rows.width) × (2 ≤ rows.count)

-- whether a place of a frame is left
abbrev pub left_of : BitRows → ℕ → Bool
left_of rows = bit_in rows 0

-- whether it has to stay
abbrev pub must_of : BitRows → ℕ → Bool
must_of rows = bit_in rows 1

-- each place that passes one test passes another
abbrev pub AreWithin : (ℕ → Bool) → (ℕ → Bool) → Type 0
AreWithin some all = (k : ℕ) → some k ≡ true → all k ≡ true

-- some places are all of the second row, and one of each row from the third on, among so many rows
pub record Satisfies (rows : BitRows) (count : ℕ) (some : ℕ → Bool) : Type 0 where
  pub must : AreWithin (must_of rows) some
  pub open_rows : (r : ℕ) → 2 ≤ r → r < count → SomePlace (λ k. bit_in rows r k && some k)

-- all places that are left satisfy the rows
abbrev pub IsAliveFrame : BitRows → Type 0
IsAliveFrame rows = Satisfies rows rows.count (left_of rows)

-- one of some places is in a region of two sets
abbrev pub IsInRegion : (ℕ → Bool) → (ℕ → Bool) → (ℕ → Bool) → Region → Type 0
IsInRegion left right some region = SomePlace (λ k. some k && lies_by region (left k) (right k))

-- one is, if a word says that the region is occupied
abbrev pub IsMetBy : Occupancy → (ℕ → Bool) → (ℕ → Bool) → (ℕ → Bool) → Region → Type 0
IsMetBy word left right some region = same_word word Occupied ≡ true → IsInRegion left right some region

-- one is, if words say so
abbrev pub IsRegionMet : Regions → (ℕ → Bool) → (ℕ → Bool) → (ℕ → Bool) → Region → Type 0
IsRegionMet words left right some region = IsMetBy (word_at words region) left right some region

-- some places are in each region of two sets that words say is occupied
abbrev pub AreRegionsMet : Regions → (ℕ → Bool) → (ℕ → Bool) → (ℕ → Bool) → Type 0
AreRegionsMet words left right some = (region : Region) → IsRegionMet words left right some region

-- two triples of words say the same of regions, for those places that are left which satisfy the rows
abbrev pub SayAlike : BitRows → (ℕ → Bool) → (ℕ → Bool) → Regions → Regions → Type 0
SayAlike rows left right one other = (some : ℕ → Bool) → AreWithin some (left_of rows) → Satisfies rows rows.count some → AreRegionsMet one left right some ↔ AreRegionsMet other left right some

-- a region's cell
abbrev pub cell_of : Cells → Region → Bool
cell_of cells LeftOnly = cells.left_only
cell_of cells Both = cells.both
cell_of cells RightOnly = cells.right_only

-- the cells of the regions in which some places lie
abbrev pub AreSeen : (ℕ → Bool) → (ℕ → Bool) → (ℕ → Bool) → Cells → Type 0
AreSeen row left right cells = (region : Region) → IsTrue (cell_of cells region) ↔ SomePlace (λ k. row k && lies_by region (left k) (right k))

-- the cells of the regions in which places of a frame lie, and in which some lie that have to stay
pub record IsSeen (rows : BitRows) (left right : ℕ → Bool) (seen : Seen) : Type 0 where
  pub all : AreSeen (left_of rows) left right seen.all
  pub must : AreSeen (must_of rows) left right seen.must

-- the cell of a region that words say is empty
pub record HasEmpty (words : Regions) (cells : Cells) : Type 0 where
  pub region : Region
  pub empty : same_word (word_at words region) Empty ≡ true
  pub there : cell_of cells region ≡ true

-- whether a place of the first row is left by what words say of the regions of two sets
abbrev pub left_at : BitRows → (ℕ → Bool) → (ℕ → Bool) → Regions → ℕ → Bool
left_at rows left right words k = left_of rows k && avoids_by words (left k) (right k)

-- whether a place of a row is one of the first row that lies in some cells of two sets
abbrev pub open_at : BitRows → (ℕ → Bool) → (ℕ → Bool) → Cells → ℕ → ℕ → Bool
open_at rows left right cells r k = bit_in rows r k && left_of rows k && in_cells cells (left k) (right k)

-- the places that words about two sets leave satisfy the rows, and lie in each region that is occupied
abbrev pub LeadsOn : BitRows → (ℕ → Bool) → (ℕ → Bool) → Regions → Type 0
LeadsOn rows left right words = Satisfies rows rows.count (left_at rows left right words) × AreRegionsMet words left right (left_at rows left right words)

-- rows that owe the same, and something more
pub record IsOwing (old new : BitRows) (Owed : (ℕ → Bool) → Type 0) : Type 0 where
  pub rows_two : 2 ≤ new.count
  pub width : new.width ≡ old.width
  pub mask : (k : ℕ) → bit_in new 0 k ≡ bit_in old 0 k
  pub owes : (some : ℕ → Bool) → AreWithin some (bit_in old 0) → Satisfies new new.count some ↔ (Satisfies old old.count some × Owed some)

-- rows after words were said of the regions of two sets
pub record IsNarrowed (old new : BitRows) (left right : ℕ → Bool) (words : Regions) : Type 0 where
  pub width : new.width ≡ old.width
  pub mask : (k : ℕ) → bit_in new 0 k ≡ left_at old left right words k
  pub owes : (some : ℕ → Bool) → AreWithin some (left_at old left right words) → Satisfies new new.count some ↔ (Satisfies old old.count some × AreRegionsMet words left right some)
