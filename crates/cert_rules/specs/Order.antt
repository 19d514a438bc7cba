-- The order in which the nodes of a tree come, by the sets of relations at its depths and the position from which on nodes
-- are shown.
use Rattle.std.specs.Prelude.{Bool, true, ◌&&◌, ◌||◌, nat_lt, if◌then◌else◌, List, [], ◌∷◌, Option, Some, None}
use Rattle.rcc5_core.specs.declared.Rel.{Rel}
use Rattle.rcc5_core.specs.declared.RelSet.{RelSet}
use Rattle.rcc5_core.specs.Relation.{rank_of, same_rel}
use Rattle.rcc5_core.specs.RelationSet.{has, first_of, next_of}

-- whether a position is shown: it is a prefix of the start, or not left of it
abbrev pub is_shown : List Rel → List Rel → Bool
is_shown [] m = true
is_shown (f ∷ from) [] = true
is_shown (f ∷ from) (rel ∷ m) = nat_lt (rank_of f) (rank_of rel) || (same_rel f rel && is_shown from m)

-- the least relation of a set that isn't left of the start
abbrev pub least_from : RelSet → List Rel → Option Rel
least_from set [] = first_of set
least_from set (f ∷ from) = if has set f then Some f else next_of set f

-- what of the start lies below a relation: its rest where it begins with this relation, else nothing
abbrev pub from_below : List Rel → Rel → List Rel
from_below [] rel = []
from_below (f ∷ from) rel = if same_rel f rel then from else []

-- a relation as a position
abbrev pub single : Option Rel → Option (List Rel)
single None = None
single (Some rel) = Some (rel ∷ [])

-- a position below a relation, or else the next relation of the set
abbrev pub or_later : RelSet → Rel → Option (List Rel) → Option (List Rel)
or_later set rel None = single (next_of set rel)
or_later set rel (Some m) = Some (rel ∷ m)

-- the position that comes next: below a branch its least relation that is shown; behind another position, or where there is
-- no such relation, the next one beside the longest prefix that has one
abbrev pub onward : List RelSet → List Rel → Bool → List Rel → Option (List Rel)
onward [] from branches m = None
onward (set ∷ sets) from branches [] = if branches then single (least_from set from) else None
onward (set ∷ sets) from branches (rel ∷ m) = or_later set rel (onward sets (from_below from rel) branches m)
