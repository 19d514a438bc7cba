-- Rows of bits, 64 a word.
use Rattle.std.specs.Prelude.{◌≡◌, ◌≢◌, ℕ, ◌+◌, ◌*◌, ◌/◌, ◌%◌, ◌<◌, ◌==◌, Bool, true, false, not, ◌&&◌, List, take, drop, slice_index_or, if◌then◌else◌}
use Rattle.std.specs.Int.{bit_at}
use Rattle.bit_rows.specs.declared.words.Cells.{Cells}

-- whether a word has a bit at a place
unfoldable pub word_bit : ℕ → ℕ → Bool
word_bit word i = bit_at word i == 1

-- whether a row of words has a bit at a place
unfoldable pub has_bit : List ℕ → ℕ → Bool
has_bit words k = word_bit (slice_index_or words (k / 64) 0) (k % 64)

-- a place that passes a test
pub record SomePlace (test : ℕ → Bool) : Type 0 where
  pub place : ℕ
  pub passes : test place ≡ true

-- a row has one place at most
abbrev pub HasSingle : List ℕ → Type 0
HasSingle words = (k l : ℕ) → has_bit words k ≡ true → has_bit words l ≡ true → k ≡ l

-- the first place of a row
pub record IsFirst (row : List ℕ) (place : ℕ) : Type 0 where
  pub there : has_bit row place ≡ true
  pub before : (k : ℕ) → k < place → has_bit row k ≡ false

-- whether some of the four cells of two sets are the cell of what is in the left one or not, and in the right one or not
abbrev pub in_cells : Cells → Bool → Bool → Bool
in_cells cells left right = if left then (if right then cells.both else cells.left_only) else (if right then cells.right_only else cells.neither)

-- whether two rows have a place in common, in some cells of two others
abbrev pub meets_at : List ℕ → List ℕ → List ℕ → List ℕ → Cells → ℕ → Bool
meets_at one other left right cells k = has_bit one k && has_bit other k && in_cells cells (has_bit left k) (has_bit right k)

-- all four cells
abbrev pub all_cells : Cells
all_cells = record { left_only = true; both = true; right_only = true; neither = true }

-- the cell of what is in neither
abbrev pub neither_cell : Cells
neither_cell = record { left_only = false; both = false; right_only = false; neither = true }

-- the cells that are none of the others
abbrev pub other_cells : Cells → Cells
other_cells cells = record { left_only = not cells.left_only; both = not cells.both; right_only = not cells.right_only; neither = not cells.neither }

-- so many rows of one width, whose words stand one after another
pub record BitRows : Type 0 where
  pub count : ℕ
  pub width : ℕ
  pub words : List ℕ

-- whether a row has a bit at a place
unfoldable pub bit_in : BitRows → ℕ → ℕ → Bool
bit_in rows r k = has_bit (take rows.width (drop (r * rows.width) rows.words)) k

-- a new last row, given by a test of its places
pub record IsPushed (old new : BitRows) (test : ℕ → Bool) : Type 0 where
  pub count : new.count ≡ old.count + 1
  pub width : new.width ≡ old.width
  pub there : (k : ℕ) → bit_in new old.count k ≡ test k
  pub before : (r k : ℕ) → r < old.count → bit_in new r k ≡ bit_in old r k
  pub past : (r k : ℕ) → old.count < r → bit_in new r k ≡ bit_in old r k

-- the last row is taken away
pub record IsPopped (old new : BitRows) : Type 0 where
  pub count : new.count + 1 ≡ old.count
  pub width : new.width ≡ old.width
  pub before : (r k : ℕ) → r < new.count → bit_in new r k ≡ bit_in old r k

-- one row is replaced by another, given by a test of its places
pub record IsPut (old new : BitRows) (row : ℕ) (test : ℕ → Bool) : Type 0 where
  pub count : new.count ≡ old.count
  pub width : new.width ≡ old.width
  pub there : (k : ℕ) → bit_in new row k ≡ test k
  pub others : (r k : ℕ) → r ≢ row → bit_in new r k ≡ bit_in old r k
