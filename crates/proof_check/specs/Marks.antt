-- Marks of codes: a table for those below its length, and a set for the others.
use Rattle.std.specs.Prelude.{◌≡◌, ℕ, Bool, false, List, length, nat_lt, if◌then◌else◌, slice_index_or}
use Rattle.std.specs.Ordering.{nat_cmp}
use Rattle.std.specs.BTreeSet.{BTreeSet, contains}
use Rattle.lits_core.specs.Derivation.{has_lit}

-- whether a code is marked
abbrev pub is_marked : List Bool → BTreeSet ℕ → ℕ → Bool
is_marked table others code =
    if nat_lt code (length table) then slice_index_or table code false else contains nat_cmp others code

-- the marked codes are those of a list
pub record MarksAre (table : List Bool) (others : BTreeSet ℕ) (lits : List ℕ) : Type 0 where
  pub agree : (code : ℕ) → is_marked table others code ≡ has_lit lits code
