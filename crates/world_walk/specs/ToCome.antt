-- Which worlds are to come.
use Rattle.std.specs.Prelude.{◌↔◌, not, List, Option, Some, None, IsTrue, Contains}
use Rattle.rcc5_core.specs.declared.Rel.{Rel}
use Rattle.world_model.specs.Problem.{Problem}
use Rattle.world_model.specs.Family.{IsPossibleWorld}
use Rattle.world_model.specs.Listing.{is_below}

-- a position is above the last one, if there is one
abbrev pub IsAbove : Option (List Rel) → List Rel → Type 0
IsAbove None t = Unit {0}
IsAbove (Some last) t = IsTrue (is_below last t)

-- a possible world is to come: it is above the last one
pub record IsToCome (p : Problem) (last : Option (List Rel)) (t : List Rel) : Type 0 where
  pub world : IsPossibleWorld p t
  pub above : IsAbove last t

-- the first world to come
pub record IsFirstToCome (p : Problem) (last : Option (List Rel)) (t : List Rel) : Type 0 where
  pub comes : IsToCome p last t
  pub least : (u : List Rel) → IsToCome p last u → IsTrue (not (is_below u t))

-- no world is to come
abbrev pub NoneToCome : Problem → Option (List Rel) → Type 0
NoneToCome p last = (t : List Rel) → IsToCome p last t → ⊥

-- a position is not before a place; all are before the end
abbrev pub IsFrom : Option (List Rel) → List Rel → Type 0
IsFrom None t = ⊥
IsFrom (Some place) t = IsTrue (not (is_below t place))

-- a possible world is left to a walk: it is not before the place where the walk stands, and not told there
pub record IsLeftAt (p : Problem) (at : Option (List Rel)) (told : List (List Rel)) (t : List Rel) : Type 0 where
  pub world : IsPossibleWorld p t
  pub from : IsFrom at t
  pub untold : Contains told t → ⊥

-- the first of some positions comes, and just those above it are left of them
pub record Comes (before after : List Rel → Type 0) (t : List Rel) : Type 0 where
  pub there : before t
  pub least : (u : List Rel) → before u → IsTrue (not (is_below u t))
  pub rest : (u : List Rel) → after u ↔ (before u × IsTrue (is_below t u))
