-- The steps of a listing.
use Rattle.std.specs.Prelude.{◌≡◌, ℕ, Bool, true, false, List, [], ◌∷◌, Option, None}
use Rattle.rcc5_core.specs.declared.Rel.{Rel}
use Rattle.world_search.specs.Searching.{SearchState, Came}

-- a search without a limit of nodes went past the next world
pub record WentPastWorld (old new : SearchState) : Type 0 where
  pub table : List Rel
  pub left : Option ℕ
  pub came : Came old new None left (table ∷ [])

-- or there was none, and it is at its end, where no node comes next in a log
pub record CameToEnd (old new : SearchState) : Type 0 where
  pub left : Option ℕ
  pub came : Came old new None left []
  pub ended : new.at ≡ None
  pub none_next : new.expects ≡ None

-- the first where a world was found, and else the second
abbrev pub IsFurther : SearchState → SearchState → Bool → Type 0
IsFurther old new true = WentPastWorld old new
IsFurther old new false = CameToEnd old new
