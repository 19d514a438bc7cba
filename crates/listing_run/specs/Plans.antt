-- What is to be listed, and where its listing stops.
use Rattle.std.specs.Prelude.{◌≤◌, IsTrue, List, length, Option, Some, IfSome}
use Rattle.rcc5_core.specs.declared.Rel.{Rel}
use Rattle.world_model.specs.Problem.{pair_count}
use Rattle.world_model.specs.Listing.{is_before_end}
use Rattle.world_model.specs.Node.{IsNodeFrom, IsSpent, IsFirstSpent}
use Rattle.world_search.specs.Searching.{IsNodeAtEnd}
use Rattle.listing_run.specs.declared.plan.ListingPlan.{ListingPlan}
use Rattle.listing_run.specs.declared.plan.Stop.{Stop}
use Rattle.listing_run.specs.declared.plan.Stop.TheVariants.{Cut, End}

-- a plan that can be carried out: its start and its end are no longer than its problem has pairs
pub record IsPlan (plan : ListingPlan) : Type 0 where
  pub start : length plan.start ≤ pair_count plan.problem
  pub end : IfSome plan.end (λ position. length position ≤ pair_count plan.problem)

-- before no node from the start on and below a place the budget is used up
abbrev pub LastsTo : ListingPlan → Option (List Rel) → Type 0
LastsTo plan at =
    (m : List Rel) → IsNodeFrom plan.problem plan.start m → IsTrue (is_before_end m at) → IsSpent plan.problem plan.start plan.nodes plan.worlds m → ⊥

-- where a listing stops: before the first node for which the budget is used up, if that is below the end; or else at the end
abbrev pub IsStopOf : ListingPlan → Stop → Type 0
IsStopOf plan (Cut node) = IsFirstSpent plan.problem plan.start plan.nodes plan.worlds node × IsTrue (is_before_end node plan.end)
IsStopOf plan (End node) = LastsTo plan plan.end × IsNodeAtEnd plan.problem plan.start plan.end node

-- the node up to which is listed, or none where all worlds from the start on are
abbrev pub stop_place : Stop → Option (List Rel)
stop_place (Cut node) = Some node
stop_place (End node) = node
