-- A path whose prefixes an asker shows to be alive, and a problem narrowed along one.
use Rattle.std.specs.Prelude.{IsTrue, List, Option, ◌≡◌, ◌≤◌, length, IfSome}
use Rattle.rcc5_core.specs.declared.Rel.{Rel}
use Rattle.world_model.specs.Problem.{Problem, pair_count}
use Rattle.world_model.specs.Family.{Family, meets, table_of}
use Rattle.world_model.specs.Listing.{Begins}
use Rattle.constraint_set.specs.Shape.{SameShape, shape_of}
use Rattle.point_query.specs.Asking.{AskerState}
use Rattle.pick_search.specs.Picking.{IsKnown}
use Rattle.point_ladder.specs.Ladders.{LadderState}
use Rattle.world_walk.specs.declared.asked.Looker.{Looker}
use Rattle.world_walk.specs.declared.path.Ground.{Ground}
use Rattle.world_walk.specs.declared.path.Ground.TheVariants as by

-- the families that meet a problem and whose tables begin with a path meet another of its shape, and only such as meet the problem do
pub record IsNarrowedBy (p : Problem) (m : List Rel) (q : Problem) : Type 0 where
  pub shape : SameShape q p
  pub within : (f : Family) → IsTrue (meets q f) → IsTrue (meets p f)
  pub there : (f : Family) → IsTrue (meets p f) → Begins m (table_of p f) → IsTrue (meets q f)

-- what looks behind a path of a problem is for problems of its shape, and what it knows to clash does
pub record IsLooker (p : Problem) (l : Looker) : Type 0 where
  pub shape : l.asker.shape ≡ shape_of p
  pub known : IsKnown p l.known

-- the asker is one for the problem, and the path has no more relations than that has pairs
pub record IsAskedPath (p : Problem) (m : List Rel) (asker : AskerState) (behind : Option Looker) : Type 0 where
  pub shape : asker.shape ≡ shape_of p
  pub upto : length m ≤ pair_count p
  pub looker : IfSome behind (IsLooker p)

-- a problem and a path, whichever tells what is alive
abbrev pub state_of : Ground → LadderState
state_of (by.Tabled ladder) = ladder
state_of (by.Asked asked) = asked
