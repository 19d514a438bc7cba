-- Where a walk stands among the nodes.
use Rattle.std.specs.Prelude.{◌≡◌, ◌↔◌, ◌<◌, ◌≤◌, ℕ, Bool, true, false, List, [], ◌∷◌, ◌++◌, Option, Some, None, length, take, IsTrue, not, if◌then◌else◌}
use Rattle.rcc5_core.specs.declared.Rel.{Rel}
use Rattle.rcc5_core.specs.declared.RelSet.{RelSet}
use Rattle.rcc5_core.specs.RelationSet.{has}
use Rattle.world_model.specs.Problem.{Problem, pair_count}
use Rattle.world_model.specs.Family.{IsPossibleWorld}
use Rattle.world_model.specs.Listing.{is_below, is_before_end}
use Rattle.world_model.specs.Alive.{problem_at, IsAlive}
use Rattle.world_model.specs.Node.{IsNode, IsNodeFrom}
use Rattle.world_model.specs.Trial.{nodes_between}
use Rattle.world_search.specs.declared.opens.Opens.{Opens}
use Rattle.world_search.specs.declared.walk.Stage.{Stage}
use Rattle.world_search.specs.declared.walk.Stage.TheVariants.{Start, Standing, Past}
use Rattle.world_search.specs.declared.walk.Walk.{Walk}
use Rattle.world_search.specs.declared.walk.NodeSight.{NodeSight}
use Rattle.world_search.specs.declared.walk.NodeSight.TheVariants.{World, NoWorld}
use Rattle.world_search.specs.Opens.{Keeps}
use Rattle.world_search.specs.Searching.{SearchState, last_place}

-- a position comes behind all that begin with a prefix
abbrev pub IsBehind : List Rel → List Rel → Type 0
IsBehind prefix m = (rest : List Rel) → IsTrue (is_below (prefix ++ rest) m)

-- the least node of a kind
pub record IsLeastNode (p : Problem) (IsKind : List Rel → Type 0) (m : List Rel) : Type 0 where
  pub node : IsNode p m
  pub kind : IsKind m
  pub least : (x : List Rel) → IsNode p x → IsKind x → IsTrue (not (is_below x m))

-- no node is of a kind
abbrev pub HasNoNode : Problem → (List Rel → Type 0) → Type 0
HasNoNode p IsKind = (x : List Rel) → IsNode p x → IsKind x → ⊥

-- the relation that waits, as a list
abbrev pub waiting : Option Rel → List Rel
waiting None = []
waiting (Some rel) = rel ∷ []

-- the node at which a walk stands: its path, and the relation that waits
abbrev pub place : Walk → List Rel
place w = w.path ++ waiting w.next

-- by the stage of a walk: it stands at the least node of a kind, or is past all nodes, where none is of the kind
abbrev pub LeadsBy : Problem → (List Rel → Type 0) → List Rel → Stage → Type 0
LeadsBy p IsKind m Start = ⊥
LeadsBy p IsKind m Standing = IsLeastNode p IsKind m
LeadsBy p IsKind m Past = HasNoNode p IsKind

abbrev pub LeadsTo : Problem → (List Rel → Type 0) → Walk → Type 0
LeadsTo p IsKind w = LeadsBy p IsKind (place w) w.stage

-- on the way to the first node: at a prefix of the start that is a node
pub record IsOnWay (p : Problem) (from : List Rel) (w : Walk) : Type 0 where
  pub begun : w.stage ≡ Start
  pub node : IsNode p (place w)
  pub rest : List Rel
  pub begins : from ≡ place w ++ rest

-- at a node from the start on, where all nodes before it are below the end
pub record IsStanding (p : Problem) (from : List Rel) (to : Option (List Rel)) (m : List Rel) : Type 0 where
  pub node : IsNodeFrom p from m
  pub earlier : (x : List Rel) → IsNodeFrom p from x → IsTrue (is_below x m) → IsTrue (is_before_end x to)

-- what is so of a walk at any time
abbrev pub IsPlacedBy : Problem → List Rel → Option (List Rel) → Walk → Stage → Type 0
IsPlacedBy p from to w Start = IsOnWay p from w
IsPlacedBy p from to w Standing = IsStanding p from to (place w)
IsPlacedBy p from to w Past = (x : List Rel) → IsNodeFrom p from x → IsTrue (is_before_end x to)

abbrev pub IsPlaced : Problem → List Rel → Option (List Rel) → Walk → Type 0
IsPlaced p from to w = IsPlacedBy p from to w w.stage

-- the place up to which all nodes are passed, by the stage of a walk
abbrev pub at_by : List Rel → Option (List Rel) → List Rel → Stage → Option (List Rel)
at_by from to m Start = Some from
at_by from to m Standing = if is_before_end m to then Some m else last_place from to
at_by from to m Past = last_place from to

-- the node whose line comes next in a log, by the stage of a walk
abbrev pub expects_by : List Rel → Stage → Option (List Rel)
expects_by m Start = Some m
expects_by m Standing = Some m
expects_by m Past = None

abbrev pub expected : Walk → Option (List Rel)
expected w = expects_by (place w) w.stage

-- a walk as the state of a search
abbrev pub state_of : Problem → List Rel → Option (List Rel) → Walk → SearchState
state_of p from to w = record { problem = p; from = from; to = to; at = at_by from to (place w) w.stage; expects = expected w }

-- nodes from the start on
abbrev pub IsFrom : List Rel → List Rel → Type 0
IsFrom from m = IsTrue (not (is_below m from))

-- nodes after another
abbrev pub IsAfter : List Rel → List Rel → Type 0
IsAfter one m = IsTrue (is_below one m)

-- a step on the way to the first node: further on the way, or at the first node
abbrev pub Follows : Problem → List Rel → Walk → Bool → Type 0
Follows p from w true = IsOnWay p from w
Follows p from w false = LeadsTo p (IsFrom from) w

-- just the relations of a set lead on from a prefix to an alive one
abbrev pub AreOpenAfter : Problem → List Rel → RelSet → Type 0
AreOpenAfter p prefix set = (rel : Rel) → IsTrue (has set rel) ↔ IsAlive (problem_at p (prefix ++ rel ∷ []))

-- each set that is kept is kept for a prefix of the path, and just its relations lead on from that prefix to an alive one
abbrev pub AreKnown : Problem → List Rel → Opens → Type 0
AreKnown p path opens = (depth : ℕ) (set : RelSet) → Keeps opens depth set → (depth ≤ length path) × AreOpenAfter p (take depth path) set

-- what a walk keeps is so of its path
abbrev pub Knows : Problem → Walk → Type 0
Knows p w = AreKnown p w.path w.opens

-- a node is alive and has room, and just these relations lead on to an alive one; or it is dead
abbrev pub IsOpenOrDead : Problem → List Rel → Option RelSet → Type 0
IsOpenOrDead p m (Some set) = IsAlive (problem_at p m) × (length m < pair_count p) × AreOpenAfter p m set
IsOpenOrDead p m None = IsAlive (problem_at p m) → ⊥

-- what a visit finds at a node
abbrev pub IsFoundAt : Problem → List Rel → NodeSight → Type 0
IsFoundAt p m World = IsPossibleWorld p m
IsFoundAt p m (NoWorld set) = IsOpenOrDead p m set × (IsPossibleWorld p m → ⊥)

-- how many nodes are left to a walk, by its stage
abbrev pub left_by : Problem → List Rel → Stage → ℕ
left_by p m Start = 0
left_by p m Standing = length (nodes_between p m None)
left_by p m Past = 0

unfoldable pub nodes_left : Problem → Walk → ℕ
nodes_left p w = left_by p (place w) w.stage
