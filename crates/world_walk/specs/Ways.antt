-- A way along the prefixes of worlds, and what a step of it leaves.
use Rattle.std.specs.Prelude.{◌≡◌, ℕ, ◌<◌, ◌≤◌, ◌↔◌, Bool, true, false, List, [], ◌∷◌, ◌++◌, length, take, Option, Some, None, IsTrue}
use Rattle.std.specs.Option.{option_to_list}
use Rattle.rcc5_core.specs.declared.Rel.{Rel}
use Rattle.rcc5_core.specs.declared.RelSet.{RelSet}
use Rattle.rcc5_core.specs.RelationSet.{has}
use Rattle.world_model.specs.Problem.{Problem, pair_count, is_problem}
use Rattle.world_model.specs.Alive.{problem_at, IsAlive}
use Rattle.world_walk.specs.declared.way.Level.{Level}
use Rattle.world_walk.specs.declared.way.Stage.{Stage}
use Rattle.world_walk.specs.declared.way.Stage.TheVariants.{Standing, Told, Past}
use Rattle.world_walk.specs.declared.way.Way.{Way}
use Rattle.world_walk.specs.Ahead.{Lists, level_at, IsAhead, room}

-- the problem of a way
abbrev pub problem_of : Way → Problem
problem_of w = w.along.problem

-- where a way stands: its path, and the relation that is to be added next
abbrev pub place : Way → List Rel
place w = w.along.path ++ option_to_list w.waiting

-- the relations at each level lead on to alive prefixes
abbrev pub LeadOn : Problem → List Rel → List Level → Type 0
LeadOn p m levels = (i : ℕ) → i < length levels → (rel : Rel) → IsTrue (has (level_at levels i).set rel) → IsAlive (problem_at p (take (level_at levels i).depth m ++ rel ∷ []))

-- a way that is not at its end
pub record IsUnderWay (w : Way) : Type 0 where
  pub ahead : IsAhead (problem_of w) (place w) w.levels.items
  pub leads : LeadOn (problem_of w) (place w) w.levels.items
  pub alive : IsAlive (problem_at (problem_of w) (place w))
  pub upto : length (place w) ≤ pair_count (problem_of w)

-- a way that stands at a full table which is told
pub record IsAtTable (w : Way) : Type 0 where
  pub under_way : IsUnderWay w
  pub ready : w.waiting ≡ None
  pub full : length w.along.path ≡ pair_count (problem_of w)

-- what is so of a way at any time, by its stage
abbrev pub IsWayBy : Way → Stage → Type 0
IsWayBy w Standing = IsUnderWay w
IsWayBy w Told = IsAtTable w
IsWayBy w Past = Unit {0}

pub record IsWay (w : Way) : Type 0 where
  pub valid : IsTrue (is_problem (problem_of w))
  pub by_stage : IsWayBy w w.stage

-- up to where all worlds are told or under the way's feet, and the worlds there
abbrev pub at_by : List Rel → Stage → Option (List Rel)
at_by m Standing = Some m
at_by m Told = Some m
at_by m Past = None

abbrev pub told_by : List Rel → Stage → List (List Rel)
told_by m Standing = []
told_by m Told = m ∷ []
told_by m Past = []

abbrev pub at_of : Way → Option (List Rel)
at_of w = at_by (place w) w.stage

abbrev pub told_of : Way → List (List Rel)
told_of w = told_by (place w) w.stage

-- the table that was told, and the empty one where none was
abbrev pub told_table : List (List Rel) → List Rel
told_table [] = []
told_table (t ∷ ts) = t

-- just the relations of a set lead on from a path to an alive one
abbrev pub AreNext : Problem → List Rel → RelSet → Type 0
AreNext p m set = (rel : Rel) → IsTrue (has set rel) ↔ IsAlive (problem_at p (m ++ rel ∷ []))

-- how much is left of a way, by its stage
abbrev pub left_by : Problem → List Rel → Stage → ℕ
left_by p m Standing = room (pair_count p) m
left_by p m Told = room (pair_count p) m
left_by p m Past = 0

abbrev pub left_of : Way → ℕ
left_of w = left_by (problem_of w) (place w) w.stage

-- a step from one place to another, past no world
pub record WentOn (old new : Way) : Type 0 where
  pub problem : problem_of new ≡ problem_of old
  pub way : IsWay new
  pub passed : Lists (problem_of old) (at_of old) (at_of new) []
  pub untold : told_of new ≡ []

-- a way that begins: no world stands from a position on and before its place, and none is told
pub record HasBegun (p : Problem) (from : List Rel) (w : Way) : Type 0 where
  pub problem : problem_of w ≡ p
  pub way : IsWay w
  pub passed : Lists p (Some from) (at_of w) []
  pub untold : told_of w ≡ []

-- whether a way goes along with a relation: then it is added to its path; and else the way is past all that begin with both, and past no world from there on
abbrev pub Follows : Way → Way → Rel → Bool → Type 0
Follows old new rel true = (new.stage ≡ Standing) × (place new ≡ old.along.path ++ rel ∷ [])
Follows old new rel false = (rest : List Rel) → Lists (problem_of old) (Some (old.along.path ++ rel ∷ rest)) (at_of new) []
