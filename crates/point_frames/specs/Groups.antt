-- Open rows in groups that have a place in common.
use Rattle.std.specs.Prelude.{◌≡◌, ℕ, ◌+◌, ◌<◌, ◌≤◌, ◌⊎◌, ◌&&◌, Bool, true, false, List, length, All, Contains}
use Rattle.bit_rows.specs.Rows.{BitRows, SomePlace, bit_in, in_cells}
use Rattle.bit_rows.specs.declared.words.Cells.{Cells}
use Rattle.point_frames.specs.declared.groups.Group.{Group}

-- each number is that of an open row below a number
abbrev pub AreOpen : ℕ → List ℕ → Type 0
AreOpen count list = All (λ r. (2 ≤ r) × (r < count)) list

-- a list has all open rows below a number
abbrev pub HasOpen : ℕ → List ℕ → Type 0
HasOpen count list = (r : ℕ) → 2 ≤ r → r < count → Contains list r

-- each row of a list has a place
abbrev pub HavePlace : BitRows → ℕ → List ℕ → Type 0
HavePlace rows place list = All (λ r. bit_in rows r place ≡ true) list

-- the rows of a list that have a place, and the others
pub record AreSplit (rows : BitRows) (list : List ℕ) (place : ℕ) (having lacking : List ℕ) : Type 0 where
  pub counted : length having + length lacking ≡ length list
  pub have : HavePlace rows place having
  pub each : (r : ℕ) → Contains list r → Contains having r ⊎ (Contains lacking r × (bit_in rows r place ≡ false))
  pub from : (r : ℕ) → Contains having r ⊎ Contains lacking r → Contains list r

-- the rows of a group are open ones below a number, and have its place
pub record IsGroup (rows : BitRows) (count : ℕ) (group : Group) : Type 0 where
  pub are_open : AreOpen count group.rows.items
  pub have : HavePlace rows group.place group.rows.items

-- a row is in one of some groups
pub record IsListed (groups : List Group) (r : ℕ) : Type 0 where
  pub group : Group
  pub there : Contains groups group
  pub has : Contains group.rows.items r

-- groups of the open rows below a number
pub record AreGrouped (rows : BitRows) (groups : List Group) (count : ℕ) : Type 0 where
  pub are : All (IsGroup rows count) groups
  pub listed : (r : ℕ) → 2 ≤ r → r < count → IsListed groups r
  pub two : 2 ≤ count
  pub within : count ≤ rows.count

-- an open row has one of some places, in some cells of two sets
abbrev pub IsOpenMet : BitRows → (ℕ → Bool) → (ℕ → Bool) → (ℕ → Bool) → Cells → ℕ → Type 0
IsOpenMet rows places left right cells r = SomePlace (λ k. bit_in rows r k && places k && in_cells cells (left k) (right k))

-- each open row below a number has one
abbrev pub AreMetBelow : BitRows → (ℕ → Bool) → (ℕ → Bool) → (ℕ → Bool) → Cells → ℕ → Type 0
AreMetBelow rows places left right cells count = (r : ℕ) → 2 ≤ r → r < count → IsOpenMet rows places left right cells r
