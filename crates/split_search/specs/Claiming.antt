-- What a search for a family puts in a log, so that what the log tells stays a valid list of claims.
use Rattle.std.specs.Prelude.{◌≡◌, List, [], ◌∷◌, Option, Some, None, IfSome, Result, Ok, Err, IsTrue}
use Rattle.rcc5_core.specs.declared.Rel.{Rel}
use Rattle.lits_core.specs.declared.Line.{Line}
use Rattle.lits_core.specs.Derivation.{State}
use Rattle.world_model.specs.Problem.{Problem}
use Rattle.world_model.specs.Alive.{IsAlive}
use Rattle.point_query.specs.Asking.{AskerState}
use Rattle.cert_text.specs.declared.line.Subject.{Subject}
use Rattle.cert_text.specs.declared.line.CertLine.{CertLine}
use Rattle.cert_text.specs.declared.line.CertLine.TheVariants.{Claims}
use Rattle.cert_text.specs.Logs.{Told}
use Rattle.cert_rules.specs.Trees.{node_problem, is_branch}
use Rattle.cert_rules.specs.Listings.{Status, Going, Ended, Rejected}
use Rattle.cert_rules.specs.ClaimLists.{subject_tree, Claim, Block, ClaimStand, claim_start, claim_step}
use Rattle.cert_rules.specs.ClaimWriting.{ClaimsKeepUp, open_at}
use Rattle.search_log.specs.declared.fault.StepFault.{StepFault}
use Rattle.split_search.specs.declared.choice.Choice.{Choice}
use Rattle.split_search.specs.declared.choice.Choice.TheVariants.{Met, Refuted}

-- where a tree is open at a node, the node is alive
abbrev pub IsAliveWithin : Problem → Option Block → Type 0
IsAliveWithin p None = Unit {0}
IsAliveWithin p (Some block) = IfSome block.at (λ m. IsAlive (node_problem (subject_tree p block.subject) m))

-- a branch of a claim's tree stands at an alive node
abbrev pub IsClaimBranchAlive : Problem → Status ClaimStand (List Claim) → CertLine → Type 0
IsClaimBranchAlive p (Going n s) line = IsTrue (is_branch line) → IsAliveWithin p s.block
IsClaimBranchAlive p (Ended claims) line = Unit {0}
IsClaimBranchAlive p (Rejected number kind) line = Unit {0}

-- so does each
abbrev pub AllClaimBranchesAlive : Problem → Status ClaimStand (List Claim) → List CertLine → Type 0
AllClaimBranchesAlive p status [] = Unit {0}
AllClaimBranchesAlive p status (line ∷ lines) = IsClaimBranchAlive p status line × AllClaimBranchesAlive p (claim_step p status line) lines

-- lines begin with the first one of a list of claims; the others keep up, and each branch among them stands at an alive node
pub record ClaimsBegin (p : Problem) (waiting : List Line) (state : State) (block : Option Block) (claims : List Claim) (told : List CertLine) : Type 0 where
  pub lines : List CertLine
  pub begins : told ≡ Claims p.switches ∷ lines
  pub keeps_up : ClaimsKeepUp p lines waiting state block claims
  pub alive : AllClaimBranchesAlive p (Going 1 (claim_start p)) lines

-- so they do where a log tells its lines
abbrev pub ToldClaims : Problem → Told → List Line → State → Option Block → List Claim → Type 0
ToldClaims p told waiting state block claims = IfSome told (ClaimsBegin p waiting state block claims)

-- told lines that begin a list of claims and keep up with an asker, with the tree of a subject open at one node, do so later with
-- the tree open at another
abbrev pub KeepsOpen : Problem → Subject → List Claim → Told → Told → AskerState → AskerState → Option (List Rel) → Option (List Rel) → Type 0
KeepsOpen p subject claims old new one other at next =
    (lines : List CertLine) → old ≡ Some lines → ClaimsBegin p one.solver.waiting one.solver.state (open_at subject at) claims lines →
    ToldClaims p new other.solver.waiting other.solver.state (open_at subject next) claims

-- so they do from the root of the tree to some node
abbrev pub KeepsSomewhere : Problem → Subject → List Claim → Told → Told → AskerState → AskerState → Type 0
KeepsSomewhere p subject claims old new one other = (at : Option (List Rel)) × KeepsOpen p subject claims old new one other (Some []) at

-- so they do from the root of the tree: after a refutation to its end, and else to some node
abbrev pub KeepsWithin : Problem → Subject → List Claim → Result Choice StepFault → Told → Told → AskerState → AskerState → Type 0
KeepsWithin p subject claims (Ok Refuted) old new one other = KeepsOpen p subject claims old new one other (Some []) None
KeepsWithin p subject claims (Ok (Met f)) old new one other = KeepsSomewhere p subject claims old new one other
KeepsWithin p subject claims (Err fault) old new one other = KeepsSomewhere p subject claims old new one other
