-- A walk along the worlds of a problem, and what a step of it gives.
use Rattle.std.specs.Prelude.{◌≡◌, ◌↔◌, List, Option, Some, None}
use Rattle.rcc5_core.specs.declared.Rel.{Rel}
use Rattle.world_model.specs.Problem.{Problem}
use Rattle.world_model.specs.Family.{IsPossibleWorld}
use Rattle.world_walk.specs.declared.walk.Walk.{Walk}
use Rattle.world_walk.specs.ToCome.{IsFrom, IsLeftAt, IsToCome, Comes}

-- a walk is one for a problem
abbrev pub IsWalk : Problem → Walk → Type 0
IsWalk p walk = walk.tables.problem ≡ p

-- a world is left to a walk
abbrev pub IsLeft : Problem → Walk → List Rel → Type 0
IsLeft p walk = IsLeftAt p walk.tables.at walk.tables.told

-- just the worlds from a position on are left
abbrev pub StandsBefore : Problem → List Rel → Walk → Type 0
StandsBefore p from walk = (t : List Rel) → IsLeft p walk t ↔ (IsPossibleWorld p t × IsFrom (Some from) t)

-- just the worlds above the last one are left, and all where there is none
abbrev pub StandsBehind : Problem → Option (List Rel) → Walk → Type 0
StandsBehind p last walk = (t : List Rel) → IsLeft p walk t ↔ IsToCome p last t

-- no world is left
abbrev pub IsOver : Problem → Walk → Type 0
IsOver p walk = (t : List Rel) → IsLeft p walk t → ⊥

-- a step gives the first world that was left, and just those above it are left then; or none was left, and none is
abbrev pub IsNext : Problem → Walk → Walk → Option (List Rel) → Type 0
IsNext p old new None = IsOver p old × IsOver p new
IsNext p old new (Some t) = Comes (IsLeft p old) (IsLeft p new) t
