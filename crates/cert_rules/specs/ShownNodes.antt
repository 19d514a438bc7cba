-- The nodes that a listing shows, and the lines that stand at them.
use Rattle.std.specs.Prelude.{◌≡◌, ◌<◌, ◌≤◌, ◌⊎◌, ◌↔◌, Bool, true, false, not, List, [], ◌∷◌, ◌++◌, length, Option, Some, None, IfSome, Contains, IsTrue}
use Rattle.std.specs.Option.{option_to_list}
use Rattle.rcc5_core.specs.declared.Rel.{Rel}
use Rattle.world_model.specs.declared.Switches.{Switches}
use Rattle.world_model.specs.Problem.{Problem, pair_count}
use Rattle.world_model.specs.Alive.{problem_at, IsAlive}
use Rattle.world_model.specs.Listing.{Begins, is_below, is_before_end, ascends}
use Rattle.world_model.specs.Node.{IsNode}
use Rattle.constraint_set.specs.Facts.{IsBuilt}
use Rattle.cert_text.specs.declared.line.CertLine.{CertLine}
use Rattle.cert_rules.specs.Order.{is_shown}
use Rattle.cert_rules.specs.Trees.{Branching, node_problem, is_branch}
use Rattle.cert_rules.specs.Listings.{Status, Going, Ended, Rejected, Stand, Listed, Role, ForProof, ForEnd, ForTree, role_of, step, listing_tree, listing_next, start, listing_status}

-- a node that is shown
abbrev pub IsShownNode : Problem → List Rel → List Rel → Type 0
IsShownNode p from m = IsNode p m × IsTrue (is_shown from m)

-- the least shown node after a position
pub record IsLeastAfter (p : Problem) (from m n : List Rel) : Type 0 where
  pub node : IsShownNode p from n
  pub after : IsTrue (is_below m n)
  pub least : (x : List Rel) → IsShownNode p from x → IsTrue (is_below m x) → IsTrue (not (is_below x n))

-- that node, or none where there is no such node
abbrev pub IsNextNode : Problem → List Rel → List Rel → Option (List Rel) → Type 0
IsNextNode p from m None = (x : List Rel) → IsShownNode p from x → IsTrue (is_below m x) → ⊥
IsNextNode p from m (Some n) = IsLeastAfter p from m n

-- a node branches where it is alive and not full, and does not where it is dead or full
abbrev pub Branches : Problem → List Rel → Bool → Type 0
Branches p m true = IsAlive (problem_at p m) × (length m < pair_count p)
Branches p m false = (IsAlive (problem_at p m) → ⊥) ⊎ (pair_count p ≤ length m)

-- the position that comes next is the next node, of which there is one at most; and a position is shown where it is a prefix of
-- the start or not below it
pub record ExpectedIsNext : Type 0 where
  pub next : (p : Problem) (from m : List Rel) (branches : Bool) → IsShownNode p from m → Branches p m branches → IsNextNode p from m (listing_next p from branches m)
  pub one : (p : Problem) (from m : List Rel) (a b : Option (List Rel)) → IsNextNode p from m a → IsNextNode p from m b → a ≡ b
  pub shown : (from m : List Rel) → IsTrue (is_shown from m) ↔ (Begins m from ⊎ IsTrue (not (is_below m from)))

-- the least node of a kind, or none where there is no such node
pub record IsLeastOf (p : Problem) (IsKind : List Rel → Type 0) (n : List Rel) : Type 0 where
  pub node : IsNode p n
  pub kind : IsKind n
  pub least : (x : List Rel) → IsNode p x → IsKind x → IsTrue (not (is_below x n))

abbrev pub IsFirstOf : Problem → (List Rel → Type 0) → Option (List Rel) → Type 0
IsFirstOf p IsKind None = (x : List Rel) → IsNode p x → IsKind x → ⊥
IsFirstOf p IsKind (Some n) = IsLeastOf p IsKind n

-- the next node in the words of a walk. Behind a node that is not below the start it is the first node that comes after. At a proper
-- prefix of the start it is the prefix with the start's next relation, where that is a node, and else the first node from the
-- start on
pub record WalkedIsNext : Type 0 where
  pub standing : (p : Problem) (from m : List Rel) (next : Option (List Rel)) → IsTrue (not (is_below m from)) →
      IsFirstOf p (λ x. IsTrue (is_below m x)) next → IsNextNode p from m next
  pub on_the_way : (p : Problem) (m : List Rel) (rel : Rel) (rest : List Rel) → IsNode p (m ++ rel ∷ []) →
      IsNextNode p (m ++ rel ∷ rest) m (Some (m ++ rel ∷ []))
  pub off_the_way : (p : Problem) (m : List Rel) (rel : Rel) (rest : List Rel) (next : Option (List Rel)) → (IsNode p (m ++ rel ∷ []) → ⊥) →
      IsFirstOf p (λ x. IsTrue (not (is_below x (m ++ rel ∷ rest)))) next → IsNextNode p (m ++ rel ∷ rest) m next

-- the node at which a line stands, if it is one of the tree
abbrev pub node_by : Role → Option (List Rel) → List (List Rel)
node_by (ForProof line) at = []
node_by (ForEnd to) at = []
node_by ForTree at = option_to_list at

abbrev pub line_node : Status Stand Listed → CertLine → List (List Rel)
line_node (Going n s) line = node_by (role_of line) s.at
line_node (Ended listed) line = []
line_node (Rejected number kind) line = []

-- the nodes at which lines stand, in order
abbrev pub visited : Branching → Status Stand Listed → List CertLine → List (List Rel)
visited tree status [] = []
visited tree status (line ∷ lines) = line_node status line ++ visited tree (step tree status line) lines

-- a branch stands at an alive node
abbrev pub IsBranchAlive : Branching → Status Stand Listed → CertLine → Type 0
IsBranchAlive tree (Going n s) line = IsTrue (is_branch line) → IfSome s.at (λ m. IsAlive (node_problem tree m))
IsBranchAlive tree (Ended listed) line = Unit {0}
IsBranchAlive tree (Rejected number kind) line = Unit {0}

-- so does each
abbrev pub AllBranchesAlive : Branching → Status Stand Listed → List CertLine → Type 0
AllBranchesAlive tree status [] = Unit {0}
AllBranchesAlive tree status (line ∷ lines) = IsBranchAlive tree status line × AllBranchesAlive tree (step tree status line) lines

-- the strictly ascending list whose members are exactly the shown nodes below an end
pub record IsShownList (p : Problem) (from : List Rel) (to : Option (List Rel)) (nodes : List (List Rel)) : Type 0 where
  pub ascending : IsTrue (ascends nodes)
  pub members : (m : List Rel) → Contains nodes m ↔ (IsShownNode p from m × IsTrue (is_before_end m to))

-- where branches stand at alive nodes alone, the lines of the tree of an accepted listing stand, one each, at exactly the shown
-- nodes below its end
abbrev pub LinesAreNodes : Type 0
LinesAreNodes = (p : Problem) → IsBuilt p → (switches : Switches) (from : List Rel) (lines : List CertLine) (listed : Listed) →
    listing_status p switches from lines ≡ Ended listed → AllBranchesAlive (listing_tree p from) (Going 1 (start p)) lines →
    IsShownList p from listed.to (visited (listing_tree p from) (Going 1 (start p)) lines)
