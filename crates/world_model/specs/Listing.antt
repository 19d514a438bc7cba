-- Positions in their order, and the listing of the possible worlds between two of them.
use Rattle.std.specs.Prelude.{◌≡◌, ◌↔◌, ℕ, Bool, true, not, ◌&&◌, List, [], ◌∷◌, ◌++◌, slice_index_or, Option, Some, None, Contains, IsTrue}
use Rattle.std.specs.List.{list_all}
use Rattle.std.specs.Ordering.{is_lt}
use Rattle.rcc5_core.specs.declared.Rel.{Rel}
use Rattle.rcc5_core.specs.declared.Rel.TheVariants.{Equals}
use Rattle.rcc5_core.specs.Order.{position_cmp}
use Rattle.world_model.specs.Problem.{Problem}
use Rattle.world_model.specs.Family.{IsPossibleWorld}

-- a position begins with another
abbrev pub Begins : List Rel → List Rel → Type 0
Begins m t = (rest : List Rel) × (t ≡ m ++ rest)

-- the relation of a position at a place, and equals past its last
abbrev pub rel_at : List Rel → ℕ → Rel
rel_at m k = slice_index_or m k Equals

-- whether one position comes before another
abbrev pub is_below : List Rel → List Rel → Bool
is_below a b = is_lt (position_cmp a b)

-- whether a position comes before the end, which may be none
abbrev pub is_before_end : List Rel → Option (List Rel) → Bool
is_before_end t None = true
is_before_end t (Some end) = is_below t end

-- whether a position is not below the start and, where an end is given, below it
abbrev pub is_between : List Rel → Option (List Rel) → List Rel → Bool
is_between from to t = not (is_below t from) && is_before_end t to

-- whether each position of a list is below all after it
abbrev pub ascends : List (List Rel) → Bool
ascends [] = true
ascends (t ∷ ts) = list_all (is_below t) ts && ascends ts

-- the strictly ascending list whose members are exactly the possible worlds from one position on and below another
pub record IsListing (p : Problem) (from : List Rel) (to : Option (List Rel)) (worlds : List (List Rel)) : Type 0 where
  pub ascending : IsTrue (ascends worlds)
  pub members : (t : List Rel) → Contains worlds t ↔ (IsPossibleWorld p t × IsTrue (is_between from to t))
