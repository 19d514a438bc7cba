-- What keeps a list of claims valid while it is written.
use Rattle.std.specs.Prelude.{◌≡◌, ℕ, ◌<◌, Bool, true, false, List, [], ◌∷◌, ◌++◌, length, Option, Some, None, IsTrue}
use Rattle.std.specs.List.{list_all}
use Rattle.rcc5_core.specs.declared.Rel.{Rel}
use Rattle.rcc5_core.specs.RelationSet.{is_empty_set}
use Rattle.lits_core.specs.declared.Line.{Line}
use Rattle.lits_core.specs.Derivation.{State, first_state, state_after, is_valid_derivation, SameState}
use Rattle.world_model.specs.Problem.{Problem, pair_count}
use Rattle.world_model.specs.Family.{Family, meets}
use Rattle.world_model.specs.Alive.{allowed}
use Rattle.world_model.specs.Node.{pair_at}
use Rattle.point_encode.specs.Model.Clauses.{given_clauses}
use Rattle.set_family.specs.Sets.{is_set_below}
use Rattle.cert_text.specs.declared.line.Subject.{Subject}
use Rattle.cert_text.specs.declared.line.CertLine.{CertLine}
use Rattle.cert_text.specs.declared.line.CertLine.TheVariants.{Proof, Branch, NoPoint, NoRelation, Holds, Fails, End, Quit, Done}
use Rattle.cert_rules.specs.Trees.{Branching, node_problem, names, tree_next}
use Rattle.cert_rules.specs.Listings.{Going, Ended}
use Rattle.cert_rules.specs.ClaimLists.{subject_problem, subject_fault, subject_tree, Claim, Block, claim_steps, claim_start, claims_status}
use Rattle.cert_rules.specs.Writing.{IsClosedNeed}

-- the lines of a list of claims after its first lead to where this tree is open, or none is, with these claims made, and the
-- lines that wait lead on from there to a state with these clauses
pub record ClaimsKeepUp (p : Problem) (lines : List CertLine) (waiting : List Line) (state : State) (block : Option Block) (claims : List Claim) : Type 0 where
  pub number : ℕ
  pub proof : State
  pub reached : claim_steps p (Going 1 (claim_start p)) lines ≡ Going number (record { proof = proof; block = block; claims = claims })
  pub valid : IsTrue (is_valid_derivation proof waiting)
  pub same : SameState (state_after proof waiting) state

-- a line of a claim's tree says what is so of a node
abbrev pub IsSoWithin : Branching → State → List Rel → CertLine → Type 0
IsSoWithin tree state m (Branch depth last) = length m < length tree.levels
IsSoWithin tree state m (NoPoint depth last need clause) = IsClosedNeed (node_problem tree m) state [] need clause
IsSoWithin tree state m (NoRelation depth last pair) =
    (pair < pair_count (node_problem tree m)) × IsTrue (is_empty_set (allowed (node_problem tree m) (pair_at (node_problem tree m) pair)))
IsSoWithin tree state m line = ⊥

-- and it names the node
abbrev pub TellsWithin : Branching → State → List Rel → CertLine → Type 0
TellsWithin tree state m line = IsTrue (names m line) × IsSoWithin tree state m line

-- a family is one and meets the problem of a subject
pub record ShowsSubject (p : Problem) (subject : Subject) (f : Family) : Type 0 where
  pub subject_is : subject_fault p subject ≡ None
  pub sets : IsTrue (list_all (is_set_below f.universe) f.sets)
  pub met : IsTrue (meets (subject_problem p subject) f)

-- the tree of a subject, open where this node is expected
abbrev pub open_at : Subject → Option (List Rel) → Option Block
open_at subject at = Some (record { subject = subject; at = at })

-- one more claim
abbrev pub one_more : List Claim → Subject → Bool → List Claim
one_more claims subject holds = claims ++ record { subject = subject; holds = holds } ∷ []

-- what is written keeps up: from the first clauses; with further lines that wait, and with the first of these put; with a claim that holds; with a
-- tree that begins, one of its nodes, its end where it is whole, and where it is left; and what ends with `done` is accepted
pub record ClaimsPutKeepUp : Type 0 where
  pub begins : (p : Problem) (state : State) → SameState (first_state (given_clauses p)) state → ClaimsKeepUp p [] [] state None []
  pub goes : (p : Problem) (lines : List CertLine) (waiting added : List Line) (one other : State) (block : Option Block) (claims : List Claim) →
      ClaimsKeepUp p lines waiting one block claims → IsTrue (is_valid_derivation one added) → SameState (state_after one added) other →
      ClaimsKeepUp p lines (waiting ++ added) other block claims
  pub flushed : (p : Problem) (lines : List CertLine) (line : Line) (waiting : List Line) (state : State) (block : Option Block) (claims : List Claim) →
      ClaimsKeepUp p lines (line ∷ waiting) state block claims → ClaimsKeepUp p (lines ++ Proof line ∷ []) waiting state block claims
  pub holds : (p : Problem) (lines : List CertLine) (state : State) (claims : List Claim) (subject : Subject) (f : Family) →
      ClaimsKeepUp p lines [] state None claims → ShowsSubject p subject f →
      ClaimsKeepUp p (lines ++ Holds subject f ∷ []) [] state None (one_more claims subject true)
  pub fails : (p : Problem) (lines : List CertLine) (state : State) (claims : List Claim) (subject : Subject) →
      ClaimsKeepUp p lines [] state None claims → subject_fault p subject ≡ None →
      ClaimsKeepUp p (lines ++ Fails subject ∷ []) [] state (open_at subject (Some [])) claims
  pub node : (p : Problem) (lines : List CertLine) (state : State) (claims : List Claim) (subject : Subject) (m : List Rel) (line : CertLine) →
      ClaimsKeepUp p lines [] state (open_at subject (Some m)) claims → TellsWithin (subject_tree p subject) state m line →
      ClaimsKeepUp p (lines ++ line ∷ []) [] state (open_at subject (tree_next (subject_tree p subject) (Some m) line)) claims
  pub whole : (p : Problem) (lines : List CertLine) (state : State) (claims : List Claim) (subject : Subject) →
      ClaimsKeepUp p lines [] state (open_at subject None) claims → ClaimsKeepUp p (lines ++ End None ∷ []) [] state None (one_more claims subject false)
  pub quit : (p : Problem) (lines : List CertLine) (state : State) (claims : List Claim) (block : Block) →
      ClaimsKeepUp p lines [] state (Some block) claims → ClaimsKeepUp p (lines ++ Quit ∷ []) [] state None claims
  pub done : (p : Problem) (lines : List CertLine) (state : State) (claims : List Claim) →
      ClaimsKeepUp p lines [] state None claims → claims_status p p.switches (lines ++ Done ∷ []) ≡ Ended claims
