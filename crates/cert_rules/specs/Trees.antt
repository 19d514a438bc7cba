-- Trees of positions, each of whose lines names a node and says why nothing below it is left out.
use Rattle.std.specs.Prelude.{ℕ, ◌-◌, ◌==◌, nat_lt, Bool, true, false, ◌&&◌, if◌then◌else◌, List, [], ◌∷◌, ◌++◌, length, map, Option, Some, None, slice_get}
use Rattle.std.specs.List.{list_all}
use Rattle.rcc5_core.specs.declared.Rel.{Rel}
use Rattle.rcc5_core.specs.declared.RelSet.{RelSet}
use Rattle.rcc5_core.specs.declared.Occupancy.TheVariants.{Occupied}
use Rattle.rcc5_core.specs.Relation.{relation_of, same_rel}
use Rattle.rcc5_core.specs.RelationSet.{is_empty_set}
use Rattle.rcc5_core.specs.Region.{word_at, same_word, forced_regions}
use Rattle.lits_core.specs.Literals.{negation_of}
use Rattle.lits_core.specs.Derivation.{State, live_clause, has_lit}
use Rattle.world_model.specs.Problem.{Problem, pair_count}
use Rattle.world_model.specs.Family.{Family, set_of, meets}
use Rattle.world_model.specs.Alive.{Need, InRegion, InConcept, allowed, narrowings_at}
use Rattle.world_model.specs.Node.{pair_at}
use Rattle.point_encode.specs.Model.Forced.{need_with, asked_of}
use Rattle.set_family.specs.Sets.{family_from}
use Rattle.cert_text.specs.declared.line.CertLine.{CertLine}
use Rattle.cert_text.specs.declared.line.CertLine.TheVariants.{Branch, NoPoint, NoRelation, World}
use Rattle.cert_rules.specs.declared.RejectKind.{RejectKind}
use Rattle.cert_rules.specs.declared.RejectKind.TheVariants.{MissingBranch, ExtraBranch, BranchTooDeep, NeedNotForced, UnknownClause, LiteralNotForced, PairNotEmpty, FamilyDoesNotMeet, FamilyHasOtherTable}
use Rattle.cert_rules.specs.Order.{onward}

-- how a tree branches: its problem, the pair on whose relation each depth branches, and the position from which on nodes are shown
pub record Branching : Type 0 where
  pub subject : Problem
  pub levels : List (ℕ × ℕ)
  pub from : List Rel

-- the problem at a node: narrowed at each pair on the way to the relation there
abbrev pub node_problem : Branching → List Rel → Problem
node_problem tree m = record tree.subject { narrowings = tree.subject.narrowings ++ narrowings_at tree.levels m }

-- the relations on which each depth branches
abbrev pub sets_of : Branching → List RelSet
sets_of tree = map (allowed tree.subject) tree.levels

-- the relations that a family has at the pairs of a tree
abbrev pub table_along : List (ℕ × ℕ) → Family → List Rel
table_along levels f = map (λ pair. relation_of (set_of f pair.0) (set_of f pair.1)) levels

-- whether two positions are one
abbrev pub same_position : List Rel → List Rel → Bool
same_position [] [] = true
same_position [] (b ∷ n) = false
same_position (a ∷ m) [] = false
same_position (a ∷ m) (b ∷ n) = same_rel a b && same_position m n

-- whether two relations are one, or neither is there
abbrev pub same_last : Option Rel → Option Rel → Bool
same_last None None = true
same_last None (Some b) = false
same_last (Some a) None = false
same_last (Some a) (Some b) = same_rel a b

-- the last relation on the way to a node, which the root lacks
abbrev pub last_of : List Rel → Option Rel
last_of m = slice_get m (length m - 1)

-- whether a node has this depth and this last relation
abbrev pub is_node_at : List Rel → ℕ → Option Rel → Bool
is_node_at m depth last = (depth == length m) && same_last last (last_of m)

-- whether a line is one of a tree and names the node
abbrev pub names : List Rel → CertLine → Bool
names m (Branch depth last) = is_node_at m depth last
names m (NoPoint depth last need clause) = is_node_at m depth last
names m (NoRelation depth last pair) = is_node_at m depth last
names m (World depth last family) = is_node_at m depth last
names m line = false

-- whether a line says that its node branches
abbrev pub is_branch : CertLine → Bool
is_branch (Branch depth last) = true
is_branch line = false

-- a fault, or else another
abbrev pub fault_or : Option RejectKind → Option RejectKind → Option RejectKind
fault_or None other = other
fault_or (Some kind) other = Some kind

-- a branch needs a pair to branch on
abbrev pub branch_fault : Branching → List Rel → Option RejectKind
branch_fault tree m = if length m == length tree.levels then Some BranchTooDeep else None

-- whether a problem asks for a point in a need
abbrev pub is_forced : Problem → Need → Bool
is_forced q (InRegion pair region) = same_word (word_at (forced_regions (allowed q pair)) region) Occupied
is_forced q (InConcept c) = q.switches.nonempty

-- whether a clause has only negations of what must be true where a point of the problem is in the need
abbrev pub is_closed : Problem → Need → List ℕ → Bool
is_closed q need clause = list_all (λ lit. has_lit (asked_of q [] need) (negation_of lit)) clause

-- a clause must be live, and must leave the need no point
abbrev pub clause_fault : Problem → Need → Option (List ℕ) → Option RejectKind
clause_fault q need None = Some UnknownClause
clause_fault q need (Some clause) = if is_closed q need clause then None else Some LiteralNotForced

-- a need must be one, and forced; then the clause is looked at
abbrev pub need_fault : Problem → Option Need → Option (List ℕ) → Option RejectKind
need_fault q None clause = Some NeedNotForced
need_fault q (Some need) clause = if is_forced q need then clause_fault q need clause else Some NeedNotForced

-- what is wrong with a need that has no point by a clause, both by their numbers
abbrev pub point_fault : Problem → State → ℕ → ℕ → Option RejectKind
point_fault q proof need clause = need_fault q (need_with q need) (live_clause proof clause)

-- a pair must be one, and must allow nothing
abbrev pub pair_fault : Problem → ℕ → Option RejectKind
pair_fault q pair = if nat_lt pair (pair_count q) && is_empty_set (allowed q (pair_at q pair)) then None else Some PairNotEmpty

-- a family must be one, and must meet the problem
abbrev pub family_fault : Problem → Option Family → Option RejectKind
family_fault q None = Some FamilyDoesNotMeet
family_fault q (Some f) = if meets q f then None else Some FamilyDoesNotMeet

-- and its table must be the node
abbrev pub table_fault : Branching → List Rel → Family → Option RejectKind
table_fault tree m f = if same_position (table_along tree.levels f) m then None else Some FamilyHasOtherTable

-- what is wrong with a world, by its family
abbrev pub world_fault : Branching → List Rel → Family → Option RejectKind
world_fault tree m f = fault_or (family_fault tree.subject (family_from f.universe f.sets)) (table_fault tree m f)

-- what is wrong with what a line says of the node that it names
abbrev pub node_fault : Branching → State → List Rel → CertLine → Option RejectKind
node_fault tree proof m (Branch depth last) = branch_fault tree m
node_fault tree proof m (NoPoint depth last need clause) = point_fault (node_problem tree m) proof need clause
node_fault tree proof m (NoRelation depth last pair) = pair_fault (node_problem tree m) pair
node_fault tree proof m (World depth last family) = world_fault tree m family
node_fault tree proof m line = None

-- what is wrong with a line where a node is expected, or none is. A line that is none of a tree names no node
abbrev pub tree_fault : Branching → State → Option (List Rel) → CertLine → Option RejectKind
tree_fault tree proof None line = Some ExtraBranch
tree_fault tree proof (Some m) line = if names m line then node_fault tree proof m line else Some MissingBranch

-- what is wrong with the end of a tree: it must be the node that is expected, or none where none is
abbrev pub end_fault : Option (List Rel) → Option (List Rel) → Option RejectKind
end_fault None None = None
end_fault None (Some to) = Some ExtraBranch
end_fault (Some m) None = Some MissingBranch
end_fault (Some m) (Some to) = if same_position m to then None else Some MissingBranch

-- the node that is expected after a line at the expected one
abbrev pub tree_next : Branching → Option (List Rel) → CertLine → Option (List Rel)
tree_next tree None line = None
tree_next tree (Some m) line = onward (sets_of tree) tree.from (is_branch line) m
