-- What a step of a search means.
use Rattle.std.specs.Prelude.{◌≡◌, ℕ, not, List, [], ◌∷◌, Option, Some, Result, Ok, Err, IsTrue}
use Rattle.rcc5_core.specs.declared.Rel.{Rel}
use Rattle.world_model.specs.Family.{meets, table_of}
use Rattle.world_model.specs.Listing.{is_below, is_before_end}
use Rattle.world_model.specs.Node.{IsNodeFrom}
use Rattle.world_search.specs.declared.step.Step.{Step}
use Rattle.world_search.specs.declared.step.Step.TheVariants.{World, Spent, End}
use Rattle.world_search.specs.declared.step.TableStep.{TableStep}
use Rattle.world_search.specs.declared.step.TableStep.TheVariants.{World as Table, Spent as SpentAt, End as EndAt}
use Rattle.world_search.specs.Searching.{SearchState, Came, last_place, IsNodeAtEnd, IsNext}

-- a search stands right behind a node: the node is below the end, and no node that is passed comes behind it
pub record StandsBehind (s : SearchState) (node : List Rel) : Type 0 where
  pub below_end : IsTrue (is_before_end node s.to)
  pub last : (m : List Rel) → IsNodeFrom s.problem s.from m → IsTrue (is_before_end m s.at) → IsTrue (not (is_below node m))

-- the next world, and the search right behind it; or no node is left to count and the node is next; or the search is at its end, and names the node there
abbrev pub IsTableStep : SearchState → SearchState → Option ℕ → Option ℕ → TableStep → Type 0
IsTableStep old new before left (Table table) = Came old new before left (table ∷ []) × StandsBehind new table
IsTableStep old new before left (SpentAt node) = Came old new before left [] × (left ≡ Some 0) × IsNext new node
IsTableStep old new before left (EndAt node) = Came old new before left [] × (new.at ≡ last_place new.from new.to) × IsNodeAtEnd new.problem new.from new.to node

-- a step where a world has a family with its table, and the node that is named is the one that comes next in a log
abbrev pub IsStep : SearchState → SearchState → Option ℕ → Option ℕ → Step → Type 0
IsStep old new before left (World table family) = IsTableStep old new before left (Table table) × IsTrue (meets old.problem family) × (table_of old.problem family ≡ table)
IsStep old new before left (Spent node) = IsTableStep old new before left (SpentAt node) × (new.expects ≡ Some node)
IsStep old new before left (End node) = IsTableStep old new before left (EndAt node) × (new.expects ≡ node)

-- what a call leaves: a step, or after want of memory the search past some nodes, none of them a world
abbrev pub IsStepped : {T : Type 0} → SearchState → SearchState → Option ℕ → Option ℕ → Result Step T → Type 0
IsStepped old new before left (Ok step) = IsStep old new before left step
IsStepped old new before left (Err fault) = Came old new before left []
