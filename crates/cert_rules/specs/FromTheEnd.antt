-- The next position from the end of the last one, as a walk with one path finds it.
use Rattle.std.specs.Prelude.{◌≡◌, ℕ, ◌<◌, true, false, List, [], ◌∷◌, ◌++◌, length, Option, Some, None, slice_index_or}
use Rattle.rcc5_core.specs.declared.Rel.{Rel}
use Rattle.rcc5_core.specs.declared.RelSet.{RelSet}
use Rattle.rcc5_core.specs.RelationSet.{no_rels, next_of}
use Rattle.cert_rules.specs.Order.{least_from, from_below, onward}

-- what of the start lies below a position
abbrev pub from_after : List Rel → List Rel → List Rel
from_after from [] = from
from_after from (rel ∷ m) = from_after (from_below from rel) m

-- a position with the relation that was found behind it, or else another
abbrev pub found_or : List Rel → Option Rel → Option (List Rel) → Option (List Rel)
found_or m None other = other
found_or m (Some rel) other = Some (m ++ rel ∷ [])

-- the relations at a depth
abbrev pub set_at : List RelSet → ℕ → RelSet
set_at sets depth = slice_index_or sets depth no_rels

-- after a position without its last relation comes what comes after the position, but for a later relation in its place; after a
-- branch comes its least relation that is shown, or what comes after it otherwise; after the root comes nothing
pub record FoundFromTheEnd : Type 0 where
  pub behind : (sets : List RelSet) (from m : List Rel) (rel : Rel) → length m < length sets →
      onward sets from false (m ++ rel ∷ []) ≡ found_or m (next_of (set_at sets (length m)) rel) (onward sets from false m)
  pub below : (sets : List RelSet) (from m : List Rel) → length m < length sets →
      onward sets from true m ≡ found_or m (least_from (set_at sets (length m)) (from_after from m)) (onward sets from false m)
  pub root : (sets : List RelSet) (from : List Rel) → onward sets from false [] ≡ None
  pub start : (from m : List Rel) (rel : Rel) → from_after from (m ++ rel ∷ []) ≡ from_below (from_after from m) rel
