-- What the lines of a certificate are: a tree, of which a listing has the part between its start and its stop.
use Rattle.std.specs.Prelude.{◌≡◌, ◌⊎◌, ◌↔◌, true, false, ◌&&◌, List, [], ◌∷◌, ◌++◌, filter, filter_map, Option, Some, None, IsTrue, Contains}
use Rattle.rcc5_core.specs.declared.Rel.{Rel}
use Rattle.rcc5_core.specs.declared.RelSet.{RelSet}
use Rattle.rcc5_core.specs.Relation.{all_rels}
use Rattle.rcc5_core.specs.RelationSet.{has}
use Rattle.lits_core.specs.declared.Line.{Line}
use Rattle.lits_core.specs.Derivation.{State, first_state, next_state, state_after, is_valid_derivation}
use Rattle.world_model.specs.declared.Switches.{Switches}
use Rattle.world_model.specs.Problem.{Problem}
use Rattle.point_encode.specs.Model.Clauses.{given_clauses}
use Rattle.cert_text.specs.declared.line.Subject.{Subject}
use Rattle.cert_text.specs.declared.line.CertLine.{CertLine}
use Rattle.cert_text.specs.declared.line.CertLine.TheVariants.{Proof, World, Fails, End}
use Rattle.cert_rules.specs.Order.{is_shown, from_below}
use Rattle.cert_rules.specs.Trees.{Branching, sets_of, table_along, is_branch, tree_fault}
use Rattle.cert_rules.specs.Listings.{Ended, Listed, listing_tree, header_fault, listing_status}
use Rattle.cert_rules.specs.ClaimLists.{Claim, subject_tree, claims_status}

-- a line that is none of the derivation, and the derivation that stands before it
pub record Placed : Type 0 where
  pub proof : State
  pub line : CertLine

-- the lines of the derivation
abbrev pub proof_lines : List CertLine → List Line
proof_lines [] = []
proof_lines (Proof derives ∷ lines) = derives ∷ proof_lines lines
proof_lines (line ∷ lines) = proof_lines lines

-- and the others, each with what is derived before it
abbrev pub other_lines : State → List CertLine → List Placed
other_lines proof [] = []
other_lines proof (Proof derives ∷ lines) = other_lines (next_state proof derives) lines
other_lines proof (line ∷ lines) = record { proof = proof; line = line } ∷ other_lines proof lines

-- a line names a node, and says of it what is so
abbrev pub IsRightAt : Branching → List Rel → Placed → Type 0
IsRightAt tree m placed = tree_fault tree placed.proof (Some m) placed.line ≡ None

-- a leaf: one line, below which nothing stands
pub record IsLeafAt (tree : Branching) (m : List Rel) (lines : List Placed) : Type 0 where
  pub line : Placed
  pub alone : lines ≡ line ∷ []
  pub leaf : is_branch line.line ≡ false
  pub right : IsRightAt tree m line

-- a branch, and behind it the lines of what is below
pub record IsBranchAt (tree : Branching) (m : List Rel) (Below : List Placed → Type 0) (lines : List Placed) : Type 0 where
  pub line : Placed
  pub rest : List Placed
  pub split : lines ≡ line ∷ rest
  pub branch : is_branch line.line ≡ true
  pub right : IsRightAt tree m line
  pub below : Below rest

-- lines of one kind, and behind them lines of another
pub record IsInTwo (First Second : List Placed → Type 0) (lines : List Placed) : Type 0 where
  pub first : List Placed
  pub second : List Placed
  pub split : lines ≡ first ++ second
  pub is_first : First first
  pub is_second : Second second

-- for each relation of a list in turn, lines of its kind
abbrev pub InTurn : (Rel → List Placed → Type 0) → List Rel → List Placed → Type 0
InTurn Kind [] lines = lines ≡ []
InTurn Kind (rel ∷ rels) lines = IsInTwo (Kind rel) (InTurn Kind rels) lines

-- the relations on which a node branches: those that its pair allows, in order, but those left of the start
abbrev pub shown_rels : RelSet → List Rel → List Rel
shown_rels set from = filter (λ rel. has set rel && is_shown from (rel ∷ [])) all_rels

-- the tree at a node, by the sets of the pairs from there on: a leaf, or a branch followed by the trees of its relations
abbrev pub IsTreeAt : Branching → List RelSet → List Rel → List Rel → List Placed → Type 0
IsTreeAt tree [] from m lines = IsLeafAt tree m lines
IsTreeAt tree (set ∷ sets) from m lines =
    IsLeafAt tree m lines ⊎ IsBranchAt tree m (InTurn (λ rel. IsTreeAt tree sets (from_below from rel) (m ++ rel ∷ [])) (shown_rels set from)) lines

-- the trees of the relations before one of a list, and then lines of another kind for this one
pub record InTurnUpTo (Kind : Rel → List Placed → Type 0) (Last : List Placed → Type 0) (rel : Rel) (rels : List Rel) (lines : List Placed) : Type 0 where
  pub earlier : List Rel
  pub later : List Rel
  pub among : rels ≡ earlier ++ rel ∷ later
  pub parts : IsInTwo (InTurn Kind earlier) Last lines

-- what of that tree comes before a stop below its node: nothing where that is the node itself; else a branch, the trees of the
-- relations before the stop's, and what of its own tree comes before the stop
abbrev pub IsTreeBefore : Branching → List RelSet → List Rel → List Rel → List Rel → List Placed → Type 0
IsTreeBefore tree sets from m [] lines = lines ≡ []
IsTreeBefore tree [] from m (rel ∷ stop) lines = ⊥
IsTreeBefore tree (set ∷ sets) from m (rel ∷ stop) lines =
    IsBranchAt tree m (InTurnUpTo (λ r. IsTreeAt tree sets (from_below from r) (m ++ r ∷ []))
    (IsTreeBefore tree sets (from_below from rel) (m ++ rel ∷ []) stop) rel (shown_rels set from)) lines

-- the whole tree from the start on, or what of it comes before a stop
abbrev pub IsTreeUpTo : Branching → Option (List Rel) → List Placed → Type 0
IsTreeUpTo tree None lines = IsTreeAt tree (sets_of tree) tree.from [] lines
IsTreeUpTo tree (Some stop) lines = IsTreeBefore tree (sets_of tree) tree.from [] stop lines

-- the world that a line shows: the table of its family
abbrev pub world_shown : Branching → CertLine → Option (List Rel)
world_shown tree (World depth last family) = Some (table_along tree.levels family)
world_shown tree line = None

abbrev pub worlds_shown : Branching → List Placed → List (List Rel)
worlds_shown tree lines = filter_map (λ placed. world_shown tree placed.line) lines

-- the lines of a listing behind its first: a valid derivation and, between its lines, the tree up to the stop; then the end, which
-- names the stop
pub record IsTreeListing (p : Problem) (switches : Switches) (from : List Rel) (lines : List CertLine) (listed : Listed) : Type 0 where
  pub header : header_fault p switches from ≡ None
  pub body : List CertLine
  pub rest : List CertLine
  pub split : lines ≡ body ++ End listed.to ∷ rest
  pub derivation : IsTrue (is_valid_derivation (first_state (given_clauses p)) (proof_lines body))
  pub tree : IsTreeUpTo (listing_tree p from) listed.to (other_lines (first_state (given_clauses p)) body)
  pub worlds : listed.worlds ≡ worlds_shown (listing_tree p from) (other_lines (first_state (given_clauses p)) body)

-- just the lines of such a tree are accepted, one by one, and its worlds are those of the listing
abbrev pub AcceptedIsATree : Type 0
AcceptedIsATree = (p : Problem) (switches : Switches) (from : List Rel) (lines : List CertLine) (listed : Listed) →
    (listing_status p switches from lines ≡ Ended listed) ↔ IsTreeListing p switches from lines listed

-- among the lines of a list of claims those of one that no family meets its subject: the first names the subject; then come a valid
-- derivation and, between its lines, the whole tree of the subject; then the end
pub record HasTreeFrom (p : Problem) (proof : State) (lines : List CertLine) (subject : Subject) : Type 0 where
  pub before : List CertLine
  pub body : List CertLine
  pub after : List CertLine
  pub split : lines ≡ before ++ Fails subject ∷ (body ++ End None ∷ after)
  pub derivation : IsTrue (is_valid_derivation proof (proof_lines before ++ proof_lines body))
  pub tree : IsTreeUpTo (subject_tree p subject) None (other_lines (state_after proof (proof_lines before)) body)

-- each claim of an accepted list that no family meets its subject has its whole tree there
abbrev pub AcceptedClaimsHaveTrees : Type 0
AcceptedClaimsHaveTrees = (p : Problem) (switches : Switches) (lines : List CertLine) (claims : List Claim) → claims_status p switches lines ≡ Ended claims →
    (claim : Claim) → Contains claims claim → claim.holds ≡ false → HasTreeFrom p (first_state (given_clauses p)) lines claim.subject
