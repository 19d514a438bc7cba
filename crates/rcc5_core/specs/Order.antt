-- The order of positions.
use Rattle.std.specs.Prelude.{List}
use Rattle.std.specs.declared.cmp.Ordering.{Ordering}
use Rattle.std.specs.Ordering.{nat_cmp}
use Rattle.std.specs.Cmp.Lexicographic.{slice_cmp}
use Rattle.rcc5_core.specs.declared.Rel.{Rel}
use Rattle.rcc5_core.specs.Relation.{rank_of}

-- the order of relations
abbrev pub rel_cmp : Rel → Rel → Ordering
rel_cmp a b = nat_cmp (rank_of a) (rank_of b)

-- the order of positions: lexicographic, a prefix first
abbrev pub position_cmp : List Rel → List Rel → Ordering
position_cmp a b = slice_cmp rel_cmp a b
