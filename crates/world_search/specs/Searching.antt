-- What a search is seen as, and what stands between two of its places.
use Rattle.std.specs.Prelude.{◌≡◌, ℕ, ◌+◌, not, List, [], length, Option, Some, None, IsTrue, if◌then◌else◌}
use Rattle.rcc5_core.specs.declared.Rel.{Rel}
use Rattle.world_model.specs.Problem.{Problem}
use Rattle.world_model.specs.Listing.{is_below, is_before_end, IsListing}
use Rattle.world_model.specs.Node.{IsNodeFrom, IsNodeList}

-- the problem, the start and the end, and where the search stands: all nodes from the start on and below this position are
-- passed, and with none all nodes are. Of what a log lists, the node that comes next, or none where all are passed
pub record SearchState : Type 0 where
  pub problem : Problem
  pub from : List Rel
  pub to : Option (List Rel)
  pub at : Option (List Rel)
  pub expects : Option (List Rel)

-- a search that begins
abbrev pub begun : Problem → List Rel → Option (List Rel) → SearchState
begun p from to = record { problem = p; from = from; to = to; at = Some from; expects = Some [] }

-- just these nodes and these worlds stand from one place on and below another, which does not lie before it
pub record StandsBetween (p : Problem) (one : List Rel) (other : Option (List Rel)) (nodes worlds : List (List Rel)) : Type 0 where
  pub onward : (m : List Rel) → IsTrue (not (is_before_end m other)) → IsTrue (not (is_below m one))
  pub nodes_are : IsNodeList p one other nodes
  pub worlds_are : IsListing p one other worlds

-- a search passed just these nodes and these worlds
abbrev pub Passes : Problem → Option (List Rel) → Option (List Rel) → List (List Rel) → List (List Rel) → Type 0
Passes p None other nodes worlds = (other ≡ None) × (nodes ≡ []) × (worlds ≡ [])
Passes p (Some one) other nodes worlds = StandsBetween p one other nodes worlds

-- the number of nodes left fell by so many, where there is one
abbrev pub FellBy : Option ℕ → Option ℕ → ℕ → Type 0
FellBy None left count = left ≡ None
FellBy (Some old) None count = ⊥
FellBy (Some old) (Some left) count = left + count ≡ old

-- from the one state the search came to the other, past these worlds; each node that it passed is counted
pub record Came (one other : SearchState) (before left : Option ℕ) (worlds : List (List Rel)) : Type 0 where
  pub problem : other.problem ≡ one.problem
  pub from : other.from ≡ one.from
  pub to : other.to ≡ one.to
  pub nodes : List (List Rel)
  pub passed : Passes one.problem one.at other.at nodes worlds
  pub counted : FellBy before left (length nodes)

-- where a search ends: at its end, or where it began if that is not below the end
abbrev pub last_place : List Rel → Option (List Rel) → Option (List Rel)
last_place from to = if is_before_end from to then to else Some from

-- the least node that is neither below the start nor below the end, where there is one
abbrev pub IsNodeAtEnd : Problem → List Rel → Option (List Rel) → Option (List Rel) → Type 0
IsNodeAtEnd p from to None = (m : List Rel) → IsNodeFrom p from m → IsTrue (is_before_end m to)
IsNodeAtEnd p from to (Some node) = IsNodeFrom p from node × IsTrue (not (is_before_end node to)) ×
    ((m : List Rel) → IsNodeFrom p from m → IsTrue (is_below m node) → IsTrue (is_before_end m to))

-- the next node to visit: a node at which the search stands and that is below the end
pub record IsNext (s : SearchState) (node : List Rel) : Type 0 where
  pub node_is : IsNodeFrom s.problem s.from node
  pub stands : s.at ≡ Some node
  pub below_end : IsTrue (is_before_end node s.to)
