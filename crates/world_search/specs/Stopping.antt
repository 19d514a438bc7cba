-- Where a walk stops.
use Rattle.std.specs.Prelude.{◌≡◌, ◌≢◌, ◌≤◌, ℕ, List, Option, Some, None, length, IsTrue}
use Rattle.rcc5_core.specs.declared.Rel.{Rel}
use Rattle.world_model.specs.Problem.{Problem, pair_count}
use Rattle.world_model.specs.Family.{IsPossibleWorld}
use Rattle.world_model.specs.Listing.{is_before_end}
use Rattle.world_search.specs.declared.step.TableStep.{TableStep}
use Rattle.world_search.specs.declared.step.TableStep.TheVariants.{World, Spent, End}
use Rattle.world_search.specs.declared.walk.Stage.TheVariants.{Standing}
use Rattle.world_search.specs.declared.walk.Walk.{Walk}
use Rattle.world_search.specs.Searching.{last_place, IsNodeAtEnd, IsNext}
use Rattle.world_search.specs.Walking.{at_by, place, state_of, expected}

-- a walk stands at a world below the end, and its visit is yet to be counted
pub record IsAtWorld (p : Problem) (to : Option (List Rel)) (w : Walk) (left : Option ℕ) (table : List Rel) : Type 0 where
  pub standing : w.stage ≡ Standing
  pub none_waits : w.next ≡ None
  pub path_is : w.path ≡ table
  pub full : pair_count p ≤ length w.path
  pub world : IsPossibleWorld p table
  pub below_end : IsTrue (is_before_end table to)
  pub some_left : left ≢ Some 0

-- a walk stops at a world, before the next node where none may be visited, or at the end. The node that is named is the next
abbrev pub IsStop : Problem → List Rel → Option (List Rel) → Walk → Option ℕ → TableStep → Type 0
IsStop p from to w left (World table) = IsAtWorld p to w left table
IsStop p from to w left (Spent node) = (left ≡ Some 0) × IsNext (state_of p from to w) node × (expected w ≡ Some node)
IsStop p from to w left (End node) = (at_by from to (place w) w.stage ≡ last_place from to) × IsNodeAtEnd p from to node × (expected w ≡ node)
