-- What of a listing has been put, how far its budget has come, and what its search meets.
use Rattle.std.specs.Prelude.{◌≡◌, ◌≢◌, ℕ, IsTrue, List, [], ◌∷◌, length, flat_map, Option, Some, None, IfOk, OnOk, OnErr, Result}
use Rattle.rcc5_core.specs.declared.Rel.{Rel}
use Rattle.outer_store.specs.Bytes.{GrownInPart, added}
use Rattle.world_model.specs.Problem.{Problem}
use Rattle.world_model.specs.Listing.{is_before_end, IsListing}
use Rattle.world_model.specs.Laws.{is_not_above_end}
use Rattle.world_model.specs.Node.{IsNodeFrom, IsNodeList}
use Rattle.world_model.specs.Saturated.{count_of}
use Rattle.constraint_set.specs.Shape.{shape_of}
use Rattle.point_query.specs.Asking.{AskerState}
use Rattle.world_search.specs.Searching.{SearchState, Came, FellBy, IsNext, last_place, IsNodeAtEnd}
use Rattle.world_search.specs.Steps.{StandsBehind}
use Rattle.world_search.specs.Walking.{IsBehind, IsLeastNode, HasNoNode}
use Rattle.world_walk.specs.Tables.{TablesState, IsNewListing}
use Rattle.run_ends.specs.Ends.{world_line}
use Rattle.listing_run.specs.declared.listing.Met.{Met}
use Rattle.listing_run.specs.declared.listing.Met.TheVariants as met
use Rattle.listing_run.specs.declared.plan.ListingPlan.{ListingPlan}
use Rattle.listing_run.specs.declared.plan.Stop.{Stop}
use Rattle.listing_run.specs.declared.plan.Stop.TheVariants.{Cut, End}
use Rattle.listing_run.specs.Plans.{LastsTo, IsStopOf, stop_place}

-- just these nodes and these worlds stand from the start on and below a place, which is not before the start
pub record AreUpTo (plan : ListingPlan) (at : Option (List Rel)) (nodes worlds : List (List Rel)) : Type 0 where
  pub begun : IsTrue (is_not_above_end plan.start at)
  pub nodes_are : IsNodeList plan.problem plan.start at nodes
  pub worlds_are : IsListing plan.problem plan.start at worlds

-- each node from the start on and below a place is below the end
abbrev pub IsUpToEnd : ListingPlan → Option (List Rel) → Type 0
IsUpToEnd plan at = (m : List Rel) → IsNodeFrom plan.problem plan.start m → IsTrue (is_before_end m at) → IsTrue (is_before_end m plan.end)

-- a line for each world below a place, how many they are, and what is left of the budget there
pub record IsPutTo (plan : ListingPlan) (at : Option (List Rel)) (old new : Option (List ℕ)) (count : ℕ) (nodes_left worlds_left : Option ℕ) : Type 0 where
  pub nodes : List (List Rel)
  pub worlds : List (List Rel)
  pub up_to : AreUpTo plan at nodes worlds
  pub within : IsUpToEnd plan at
  pub lasts : LastsTo plan at
  pub put : new ≡ added old (flat_map world_line worlds)
  pub counted : count ≡ count_of worlds
  pub nodes_fell : FellBy plan.nodes nodes_left (length nodes)
  pub worlds_fell : FellBy plan.worlds worlds_left (length worlds)

-- a line for each world up to where the listing stops, and how many they are
pub record IsPutToStop (plan : ListingPlan) (old new : Option (List ℕ)) (stop : Stop) (count : ℕ) : Type 0 where
  pub worlds : List (List Rel)
  pub stop_is : IsStopOf plan stop
  pub exactly : IsListing plan.problem plan.start (stop_place stop) worlds
  pub put : new ≡ added old (flat_map world_line worlds)
  pub counted : count ≡ count_of worlds

-- a first part of these lines
pub record IsPutPartly (plan : ListingPlan) (old new : Option (List ℕ)) : Type 0 where
  pub stop : Stop
  pub worlds : List (List Rel)
  pub stop_is : IsStopOf plan stop
  pub exactly : IsListing plan.problem plan.start (stop_place stop) worlds
  pub part : GrownInPart old new (flat_map world_line worlds)

-- a search of a plan, and an asker of its problem
pub record IsSearchOf (plan : ListingPlan) (search : SearchState) (asker : AskerState) : Type 0 where
  pub problem : search.problem ≡ plan.problem
  pub from : search.from ≡ plan.start
  pub to : search.to ≡ plan.end
  pub shape : asker.shape ≡ shape_of plan.problem

-- a search is at its end, and this node is the least that is not below it
abbrev pub IsPastAll : SearchState → Option (List Rel) → Type 0
IsPastAll s node = (s.at ≡ last_place s.from s.to) × IsNodeAtEnd s.problem s.from s.to node

-- what a search meets: a world, right behind which it then stands; the next node, where none may be visited; or its end
abbrev pub MeetsNext : SearchState → SearchState → Option ℕ → Option ℕ → Met → Type 0
MeetsNext one other before left (met.World table) = Came one other before left (table ∷ []) × StandsBehind other table
MeetsNext one other before left (met.Cut node) = Came one other before left [] × (left ≡ Some 0) × IsNext other node
MeetsNext one other before left (met.End node) = Came one other before left [] × IsPastAll other node

-- what a call leaves that goes on to what the search meets next: after a fault the search is past some nodes, none of them a world
pub record GoesToNext {E : Type 0} (result : Result Met E) (one other : SearchState) (asker asker' : AskerState) (before left : Option ℕ) : Type 0 where
  pub met : IfOk result (MeetsNext one other before left)
  pub err : OnErr result (Came one other before left [])
  pub shape : asker'.shape ≡ asker.shape
  pub none_waits : OnOk result (asker'.solver.waiting ≡ [])

-- where a search stands that passed no node: at a node, or at its end
abbrev pub StopsAt : SearchState → Stop → Type 0
StopsAt s (Cut node) = IsNext s node
StopsAt s (End node) = IsPastAll s node

pub record IsListingStop (one other : SearchState) (stop : Stop) : Type 0 where
  pub left : Option ℕ
  pub came : Came one other (Some 0) left []
  pub stands : StopsAt other stop

-- tables that list in the place of a search: nothing ends the plan, nobody counts nodes, some world may be put, and they begin at
-- the start
pub record AreTablesFor (plan : ListingPlan) (tables : TablesState) : Type 0 where
  pub endless : plan.end ≡ None
  pub uncounted : plan.nodes ≡ None
  pub wanted : plan.worlds ≢ Some 0
  pub begun : IsNewListing plan.problem plan.start tables

-- where a listing without an end stops that may put no world behind a table: before the least node behind it, or past all nodes
abbrev pub IsStopBehind : Problem → List Rel → Stop → Type 0
IsStopBehind p table (Cut node) = IsLeastNode p (IsBehind table) node
IsStopBehind p table (End node) = (node ≡ None) × HasNoNode p (IsBehind table)
