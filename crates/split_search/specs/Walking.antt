-- Where a search stands in the tree over a problem's split pairs, and what a line there does to a log.
use Rattle.std.specs.Prelude.{◌≡◌, ◌<◌, ◌≤◌, Bool, true, false, List, [], ◌∷◌, ◌++◌, length, map, All, Option, Some, None, if◌then◌else◌, Result, Ok, Err, IsTrue}
use Rattle.rcc5_core.specs.declared.Rel.{Rel}
use Rattle.lits_core.specs.Derivation.{State}
use Rattle.world_model.specs.Problem.{Problem, pair_count}
use Rattle.world_model.specs.Node.{pair_at}
use Rattle.world_model.specs.Alive.{IsAlive}
use Rattle.point_query.specs.Asking.{AskerState}
use Rattle.cert_text.specs.declared.line.Subject.{Subject}
use Rattle.cert_text.specs.declared.line.CertLine.{CertLine}
use Rattle.cert_text.specs.Logs.{Told}
use Rattle.cert_rules.specs.Trees.{Branching, node_problem, sets_of, is_branch}
use Rattle.cert_rules.specs.Order.{onward}
use Rattle.cert_rules.specs.ClaimLists.{subject_problem, split_pairs, Claim}
use Rattle.cert_rules.specs.ClaimWriting.{TellsWithin}
use Rattle.search_log.specs.Logging.{next_if}
use Rattle.search_log.specs.declared.fault.StepFault.{StepFault}
use Rattle.split_search.specs.declared.walk.NodePath.{NodePath}
use Rattle.split_search.specs.declared.visit.Visit.{Visit}
use Rattle.split_search.specs.declared.visit.Visit.TheVariants.{Met, Past}
use Rattle.split_search.specs.declared.visit.VisitEnd.{VisitEnd}
use Rattle.split_search.specs.declared.visit.VisitEnd.TheVariants as turn
use Rattle.set_family.specs.Meeting.{IsMetBy}
use Rattle.split_search.specs.Claiming.{KeepsOpen}

-- the tree over the split pairs of a problem
abbrev pub split_tree : Problem → Branching
split_tree q = record { subject = q; levels = split_pairs q; from = [] }

-- the node that comes next
abbrev pub next_node : Problem → Bool → List Rel → Option (List Rel)
next_node q branches m = onward (sets_of (split_tree q)) [] branches m

-- the problems at a node and on the way from it along more relations
abbrev pub problems_from : Branching → List Rel → List Rel → List Problem
problems_from tree m [] = node_problem tree m ∷ []
problems_from tree m (rel ∷ rest) = node_problem tree m ∷ problems_from tree (m ++ rel ∷ []) rest

-- a walk has the split pairs of its problem, by their numbers, and the problems on the way from the root to its node
pub record IsWalk (walk : NodePath) : Type 0 where
  pub pairs : map (pair_at walk.subject) walk.pairs.items ≡ split_pairs walk.subject
  pub within : All (λ pair. pair < pair_count walk.subject) walk.pairs.items
  pub short : length walk.path ≤ length walk.pairs.items
  pub problems : walk.problems.items ≡ problems_from (split_tree walk.subject) [] walk.path

-- a node, if the walk stands at one
abbrev pub node_if : Bool → List Rel → Option (List Rel)
node_if on m = if on then Some m else None

-- what a visit finds at a node: a family that meets the problem; or that it is to branch, and has room; or that it is dead
abbrev pub IsVisit : Problem → List Rel → Visit → Type 0
IsVisit q m (Met f) = IsMetBy q f
IsVisit q m (Past true) = length m < length (split_pairs q)
IsVisit q m (Past false) = IsAlive (node_problem (split_tree q) m) → ⊥

-- the node that is expected after a visit
abbrev pub visit_next : Problem → List Rel → Result Visit StepFault → Option (List Rel)
visit_next q m (Ok (Past branches)) = next_node q branches m
visit_next q m (Ok (Met f)) = Some m
visit_next q m (Err fault) = Some m

-- the next node, behind a dead node or a branch
pub record IsPast (q : Problem) (m : List Rel) (next : Option (List Rel)) : Type 0 where
  pub branches : Bool
  pub seen : IsVisit q m (Past branches)
  pub next_is : next_node q branches m ≡ next

-- the node that is expected after a turn from one node to another
abbrev pub turn_next : List Rel → List Rel → VisitEnd → Option (List Rel)
turn_next m new (turn.Met f) = Some m
turn_next m new turn.On = Some new
turn_next m new turn.Done = None

-- a turn from a node: a family that meets the problem, or the node is passed
abbrev pub IsTurn : Problem → List Rel → List Rel → VisitEnd → Type 0
IsTurn q m new (turn.Met f) = IsMetBy q f
IsTurn q m new turn.On = IsPast q m (Some new)
IsTurn q m new turn.Done = IsPast q m None

-- a line tells of a node of a tree, and of a branch that it is alive
pub record TellsAlive (tree : Branching) (state : State) (m : List Rel) (line : CertLine) : Type 0 where
  pub tells : TellsWithin tree state m line
  pub alive : IsTrue (is_branch line) → IsAlive (node_problem tree m)

-- what is told of each subject with this problem keeps up, from its tree open at one node to another
abbrev pub KeepsTree : Problem → Told → Told → AskerState → AskerState → Option (List Rel) → Option (List Rel) → Type 0
KeepsTree q old new one other at next =
    (p : Problem) (subject : Subject) (claims : List Claim) → subject_problem p subject ≡ q → KeepsOpen p subject claims old new one other at next

-- so it does from one node to some other
abbrev pub KeepsAnywhere : Problem → Told → Told → AskerState → AskerState → List Rel → Type 0
KeepsAnywhere q old new one other m = (at : Option (List Rel)) × KeepsTree q old new one other (Some m) at

-- so it does past a node, with a line that tells of it
abbrev pub KeepsPast : {T : Type 0} → Problem → Result T StepFault → Told → Told → AskerState → AskerState → List Rel → Bool → Type 0
KeepsPast q result old new one other m branches = KeepsTree q old new one other (Some m) (next_if result (next_node q branches m) (Some m))
