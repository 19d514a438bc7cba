-- The next position from the end of the last one.
use Rattle.std.proofs.Common.{◌≡◌, ◌<◌, true, false, List, [], ◌∷◌, ◌++◌, length, Option, Some, None, refl, ap, ◌∙◌, arith}
use Rattle.rcc5_core.specs.declared.Rel.{Rel}
use Rattle.rcc5_core.specs.declared.RelSet.{RelSet}
use Rattle.rcc5_core.specs.RelationSet.{next_of}
use Rattle.cert_rules.specs.Order.{least_from, from_below, single, or_later, onward}
use Rattle.cert_rules.specs.FromTheEnd.{from_after, found_or, set_at, FoundFromTheEnd}

-- a relation in front of what is found behind a position
in_front : (set : RelSet) (q : Rel) (m : List Rel) (found : Option Rel) (other : Option (List Rel)) →
    or_later set q (found_or m found other) ≡ found_or (q ∷ m) found (or_later set q other)
in_front set q m None other = refl
in_front set q m (Some rel) other = refl

-- a single relation is what is found behind the root
at_root : (found : Option Rel) → single found ≡ found_or [] found None
at_root None = refl
at_root (Some rel) = refl

pub root_ends : (sets : List RelSet) (from : List Rel) → onward sets from false [] ≡ None
root_ends [] from = refl
root_ends (set ∷ sets) from = refl

behind : (sets : List RelSet) (from m : List Rel) (rel : Rel) → length m < length sets →
    onward sets from false (m ++ rel ∷ []) ≡ found_or m (next_of (set_at sets (length m)) rel) (onward sets from false m)
behind [] from m rel short = absurd (omega arith)
behind (set ∷ sets) from [] rel short = ap (or_later set rel) (root_ends sets (from_below from rel)) ∙ at_root (next_of set rel)
behind (set ∷ sets) from (q ∷ m) rel short =
    ap (or_later set q) (behind sets (from_below from q) m rel (omega arith)) ∙ in_front set q m (next_of (set_at sets (length m)) rel) (onward sets (from_below from q) false m)

below : (sets : List RelSet) (from m : List Rel) → length m < length sets →
    onward sets from true m ≡ found_or m (least_from (set_at sets (length m)) (from_after from m)) (onward sets from false m)
below [] from m short = absurd (omega arith)
below (set ∷ sets) from [] short = at_root (least_from set from)
below (set ∷ sets) from (q ∷ m) short =
    ap (or_later set q) (below sets (from_below from q) m (omega arith)) ∙
    in_front set q m (least_from (set_at sets (length m)) (from_after (from_below from q) m)) (onward sets (from_below from q) false m)

start : (from m : List Rel) (rel : Rel) → from_after from (m ++ rel ∷ []) ≡ from_below (from_after from m) rel
start from [] rel = refl
start from (q ∷ m) rel = start (from_below from q) m rel

pub found_from_the_end_law : FoundFromTheEnd
found_from_the_end_law = record { behind = behind; below = below; root = root_ends; start = start }
