-- A walk along a tree, with one path.
use Rattle.std.specs.Prelude.{◌≡◌, ℕ, ◌≤◌, Bool, true, List, [], ◌∷◌, ◌++◌, length, drop, Option, Some, None, if◌then◌else◌}
use Rattle.rcc5_core.specs.declared.Rel.{Rel}
use Rattle.rcc5_core.specs.declared.RelSet.{RelSet}
use Rattle.rcc5_core.specs.RelationSet.{has, first_of, next_of}
use Rattle.cert_text.specs.declared.line.CertLine.{CertLine}
use Rattle.cert_rules.specs.declared.RejectKind.{RejectKind}
use Rattle.cert_rules.specs.declared.RejectKind.TheVariants.{ExtraBranch, MissingBranch}
use Rattle.cert_rules.specs.Trees.{names}
use Rattle.cert_rules.specs.Order.{is_shown}
use Rattle.cert_rules.specs.FromTheEnd.{from_after}
use Rattle.cert_tree.specs.declared.path.Walk.{Walk}

-- the path is within the tree and shown, and what of the start lies below it is known without a look at the path
pub record IsPath (depths : ℕ) (from path : List Rel) (on_way : Bool) : Type 0 where
  pub short : length path ≤ depths
  pub shown : is_shown from path ≡ true
  pub below : from_after from path ≡ (if on_way then drop (length path) from else [])

abbrev pub IsWalk : Walk → Type 0
IsWalk walk = IsPath (length walk.tree.levels) walk.tree.from walk.path walk.on_way

-- the expected node, if any is
abbrev pub node_of : Bool → List Rel → Option (List Rel)
node_of expected path = if expected then Some path else None

abbrev pub at_of : Walk → Option (List Rel)
at_of walk = node_of walk.expected walk.path

-- what is wrong with the name that a line has for the expected node
abbrev pub name_fault : Option (List Rel) → CertLine → Option RejectKind
name_fault None line = Some ExtraBranch
name_fault (Some m) line = if names m line then None else Some MissingBranch

-- the least relation of a set that isn't left of the first of the start
abbrev pub least_with : RelSet → Option Rel → Option Rel
least_with set None = first_of set
least_with set (Some f) = if has set f then Some f else next_of set f

-- a relation behind a position leads to a position that is shown, and lies off the start's way
pub record IsBeside (from path : List Rel) (rel : Rel) : Type 0 where
  pub shown : is_shown from (path ++ rel ∷ []) ≡ true
  pub off : from_after from (path ++ rel ∷ []) ≡ []
