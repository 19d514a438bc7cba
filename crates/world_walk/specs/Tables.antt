-- What a listing along alive paths is seen as.
use Rattle.std.specs.Prelude.{◌≡◌, ℕ, ◌↔◌, List, [], ◌∷◌, Option, Some}
use Rattle.rcc5_core.specs.declared.Rel.{Rel}
use Rattle.world_model.specs.Problem.{Problem, pairs}
use Rattle.world_model.specs.Family.{IsPossibleWorld}
use Rattle.world_walk.specs.declared.way.Way.{Way}
use Rattle.world_walk.specs.Ahead.{Lists, BeginAlike}
use Rattle.world_walk.specs.Ways.{problem_of, IsWay, at_of, told_of, told_table}

-- the problem, the place up to which all worlds are passed (none where all are), and the world there, where it was told
pub record TablesState : Type 0 where
  pub problem : Problem
  pub at : Option (List Rel)
  pub told : List (List Rel)

-- a way for a problem as the state of a listing
abbrev pub tables_of : Problem → Way → TablesState
tables_of p w = record { problem = p; at = at_of w; told = told_of w }

-- a way among the worlds of a problem: its own problem has the same pairs and worlds
pub record IsWayFor (p : Problem) (w : Way) : Type 0 where
  pub way : IsWay w
  pub pairs_are : pairs (problem_of w) ≡ pairs p
  pub worlds : (t : List Rel) → IsPossibleWorld (problem_of w) t ↔ IsPossibleWorld p t

-- a listing that begins at a position: no world stands from there on and before its place, and none is told
pub record IsNewListing (p : Problem) (from : List Rel) (s : TablesState) : Type 0 where
  pub problem : s.problem ≡ p
  pub passed : Lists p (Some from) s.at []
  pub untold : s.told ≡ []

-- it stands at a world, which is told
pub record IsAtWorld (s : TablesState) : Type 0 where
  pub table : List Rel
  pub world : IsPossibleWorld s.problem table
  pub at : s.at ≡ Some table
  pub told : s.told ≡ table ∷ []

-- a call passed the world that was told, and no other
pub record PassedTold (old new : TablesState) : Type 0 where
  pub problem : new.problem ≡ old.problem
  pub passed : Lists old.problem old.at new.at old.told

-- the table that is told begins with so many relations of the one that was told before, if one was
abbrev pub Keeps : TablesState → TablesState → ℕ → Type 0
Keeps old new count = BeginAlike (told_table old.told) (told_table new.told) count
