-- The rows of a frame in two places: its own ones, and the open ones of a base that it shares.
use Rattle.std.specs.Prelude.{◌≡◌, ℕ, ◌+◌, ◌-◌, ◌*◌, ◌<◌, ◌≤◌, Bool, ◌&&◌, List, ◌++◌, take, drop, replicate}
use Rattle.bit_rows.specs.declared.words.Cells.{Cells}
use Rattle.bit_rows.specs.Rows.{BitRows, SomePlace, bit_in, in_cells}
use Rattle.point_frames.specs.declared.base.Base.{Base}
use Rattle.point_frames.specs.Frames.{IsLaid}
use Rattle.point_frames.specs.Groups.{AreGrouped}

-- just the words of so many rows
abbrev pub filled : BitRows → List ℕ
filled rows = take (rows.count * rows.width) (rows.words ++ replicate (rows.count * rows.width) 0)

-- own rows, and after them the open ones of others
abbrev pub joined : BitRows → BitRows → BitRows
joined own base = record { count = own.count + (base.count - 2); width = own.width; words = filled own ++ drop (2 * base.width) base.words }

-- rows of a frame's own that stand before those of a base
pub record StandsOn (own : BitRows) (base : Base) : Type 0 where
  pub laid : IsLaid own
  pub width : base.rows.width ≡ own.width
  pub grouped : AreGrouped base.rows base.groups.items base.grouped

-- some places are one of those of each open row that others leave in some cells of two sets
abbrev pub HaveSomeIn : BitRows → (ℕ → Bool) → (ℕ → Bool) → (ℕ → Bool) → Cells → (ℕ → Bool) → Type 0
HaveSomeIn rows places left right cells some = (r : ℕ) → 2 ≤ r → r < rows.count → SomePlace (λ k. (bit_in rows r k && places k && in_cells cells (left k) (right k)) && some k)

-- the first so many rows of others
pub record HasFirst (old new : BitRows) (count : ℕ) : Type 0 where
  pub counted : new.count ≡ count
  pub width : new.width ≡ old.width
  pub same : (r k : ℕ) → r < count → bit_in new r k ≡ bit_in old r k
