-- The line of relations of a ladder, the pairs that it may go along, and the frames in force along its path.
use Rattle.std.specs.Prelude.{◌≡◌, ℕ, ◌+◌, ◌-◌, ◌<◌, ◌≤◌, ◌↔◌, Bool, true, List, [], length, take, slice_index_or, IsTrue}
use Rattle.rcc5_core.specs.declared.Rel.{Rel}
use Rattle.rcc5_core.specs.declared.RelSet.{RelSet}
use Rattle.rcc5_core.specs.RelationSet.{only, every_rel}
use Rattle.world_model.specs.Problem.{Problem, pair_count}
use Rattle.world_model.specs.Alive.{problem_at, IsAlive}
use Rattle.world_model.specs.Listing.{rel_at}
use Rattle.world_model.specs.Trial.{points_by_trial}
use Rattle.bit_rows.specs.Rows.{BitRows}
use Rattle.point_table.specs.Points.{AreAllowed}
use Rattle.point_table.specs.Table.{AreRowsOf}
use Rattle.point_ladder.specs.declared.stretches.Stretch.{Stretch}
use Rattle.point_ladder.specs.Bounds.{HoldsPoints}
use Rattle.point_ladder.specs.Ladders.{IsFrame}

-- a stretch by its number
abbrev pub stretch_at : List Stretch → ℕ → Stretch
stretch_at stretches i = slice_index_or stretches i (record { from = 0; frame = record { count = 0; width = 0; words = [] } })

-- the frames in force along a path, each from its length on to the next one's
pub record HasFrames (q : Problem) (points : List (List Bool)) (line : List Rel) (stretches : List Stretch) (len : ℕ) : Type 0 where
  pub some : 0 < length stretches
  pub first : (stretch_at stretches 0).from ≡ 0
  pub ascending : (i j : ℕ) → i < j → j < length stretches → (stretch_at stretches i).from < (stretch_at stretches j).from
  pub within : (i : ℕ) → i < length stretches → (stretch_at stretches i).from ≤ len
  pub each : (i n : ℕ) → i < length stretches → (stretch_at stretches i).from ≤ n → n ≤ len → (i + 1 < length stretches → n < (stretch_at stretches (i + 1)).from) →
      IsFrame (problem_at q (take n line)) points (stretch_at stretches i).frame

-- the last stretch that begins at a length or before
pub record IsInForce (stretches : List Stretch) (len i : ℕ) : Type 0 where
  pub within : i < length stretches
  pub begun : (stretch_at stretches i).from ≤ len
  pub last : i + 1 < length stretches → len < (stretch_at stretches (i + 1)).from

-- the first of some stretches, up to the last that begins at a length or before
pub record IsCutBack (old new : List Stretch) (len : ℕ) : Type 0 where
  pub fewer : length new ≤ length old
  pub begins : new ≡ take (length new) old
  pub low : 0 < length new → (stretch_at new (length new - 1)).from ≤ len
  pub high : length new < length old → len < (stretch_at old (length new)).from

-- for each set the next one from it on that is not just the line's relation, or the end
pub record AreNexts (sets : List RelSet) (line : List Rel) (nexts : List ℕ) : Type 0 where
  pub counted : length nexts ≡ length sets
  pub onward : (k : ℕ) → k < length nexts → (k ≤ slice_index_or nexts k 0) × (slice_index_or nexts k 0 ≤ length sets)
  pub decided : (k i : ℕ) → k < length nexts → k ≤ i → i < slice_index_or nexts k 0 → slice_index_or sets i every_rel ≡ only (rel_at line i)

-- what a ladder keeps of its problem, which is narrowed to bounds, and its path
pub record IsLadder (p q : Problem) (sets : List RelSet) (rows : BitRows) (line : List Rel) (len : ℕ) (nexts : List ℕ) (stretches : List Stretch) (alive : Bool) : Type 0 where
  pub sets_are : AreAllowed q sets
  pub rows_are : AreRowsOf p rows
  pub lined : length line ≡ pair_count q
  pub nexts_are : AreNexts sets line nexts
  pub start : IsTrue alive ↔ IsAlive q
  pub here : 0 < len → IsAlive (problem_at q (take len line))
  pub short : len ≤ pair_count q
  pub holds : alive ≡ true → HoldsPoints q (points_by_trial p)
  pub has_frames : alive ≡ true → HasFrames q (points_by_trial p) line stretches len
