-- What tells whether the prefixes of a walk are alive.
use Rattle.std.specs.Prelude.{◌≡◌, ◌≤◌, List, ◌++◌, length, Option, IfSome}
use Rattle.rcc5_core.specs.declared.Rel.{Rel}
use Rattle.world_model.specs.Problem.{Problem, pair_count}
use Rattle.point_ladder.specs.Ladders.{LadderState}
use Rattle.world_search.specs.declared.guide.Guide.{Guide}
use Rattle.world_search.specs.declared.walk.Walk.{Walk}
use Rattle.world_search.specs.Walking.{IsPlaced, Knows}

-- a ladder of the problem, whose path is a first part of a prefix
pub record IsLadderOf (p : Problem) (prefix : List Rel) (ladder : LadderState) : Type 0 where
  pub problem : ladder.problem ≡ p
  pub rest : List Rel
  pub begins : prefix ≡ ladder.path ++ rest

-- a guide at a prefix: if it has a ladder, that is one
abbrev pub IsGuideOf : Problem → List Rel → Guide → Type 0
IsGuideOf p prefix guide = IfSome guide.ladder (IsLadderOf p prefix)

-- a walk stands in its span, knows its nodes, and has its guide
pub record IsUnderWay (p : Problem) (from : List Rel) (to : Option (List Rel)) (w : Walk) (g : Guide) : Type 0 where
  pub placed : IsPlaced p from to w
  pub knows : Knows p w
  pub guide : IsGuideOf p w.path g

-- what every search keeps
pub record IsSearch (p : Problem) (from : List Rel) (to : Option (List Rel)) (w : Walk) (g : Guide) : Type 0 where
  pub within : length from ≤ pair_count p
  pub walk : IsUnderWay p from to w g
