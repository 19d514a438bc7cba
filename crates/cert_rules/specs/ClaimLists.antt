-- Lists of claims, line by line: that a family meets the problem of a subject, or that none does.
use Rattle.std.specs.Prelude.{ℕ, ◌+◌, ◌==◌, nat_lt, Bool, true, false, not, ◌||◌, if◌then◌else◌, List, [], ◌∷◌, ◌++◌, length, filter, Option, Some, None}
use Rattle.rcc5_core.specs.declared.Rel.{Rel}
use Rattle.rcc5_core.specs.RelationSet.{only, is_empty_set}
use Rattle.rcc5_core.specs.Region.{is_whole_set}
use Rattle.lits_core.specs.declared.Line.{Line}
use Rattle.lits_core.specs.Derivation.{State, first_state, next_state}
use Rattle.world_model.specs.declared.Switches.{Switches}
use Rattle.world_model.specs.Problem.{Problem, pairs, pair_count, narrowed, restricted}
use Rattle.world_model.specs.Family.{Family}
use Rattle.world_model.specs.Alive.{allowed}
use Rattle.world_model.specs.Node.{pair_at}
use Rattle.point_encode.specs.Model.Clauses.{given_clauses}
use Rattle.set_family.specs.Sets.{family_from}
use Rattle.cert_text.specs.declared.line.Subject.{Subject}
use Rattle.cert_text.specs.declared.line.Subject.TheVariants.{Narrowed, Kept}
use Rattle.cert_text.specs.declared.line.CertLine.{CertLine}
use Rattle.cert_text.specs.declared.line.CertLine.TheVariants.{Proof, Branch, NoPoint, NoRelation, Holds, Fails, End, Quit, Done}
use Rattle.cert_rules.specs.declared.RejectKind.{RejectKind}
use Rattle.cert_rules.specs.declared.RejectKind.TheVariants.{WrongHeader, WrongSubject, MissingBranch, ExtraBranch}
use Rattle.cert_rules.specs.Trees.{Branching, fault_or, family_fault, tree_fault, tree_next, end_fault}
use Rattle.cert_rules.specs.Listings.{Status, Going, Ended, Rejected, unless, proof_fault, same_switches}

-- the problem that a claim is about: with a pair narrowed to one relation, or with some articulations kept
abbrev pub subject_problem : Problem → Subject → Problem
subject_problem p (Narrowed pair rel) = narrowed p (pair_at p pair) (only rel)
subject_problem p (Kept flags) = restricted p flags

-- what is wrong with a subject: it must name a pair, or have a flag for each articulation
abbrev pub subject_fault : Problem → Subject → Option RejectKind
subject_fault p (Narrowed pair rel) = if nat_lt pair (pair_count p) then None else Some WrongSubject
subject_fault p (Kept flags) = if length flags == length p.articulations then None else Some WrongSubject

-- the pairs whose allowed set is neither empty nor whole
abbrev pub split_pairs : Problem → List (ℕ × ℕ)
split_pairs q = filter (λ pair. not (is_empty_set (allowed q pair) || is_whole_set (allowed q pair))) (pairs q)

-- the tree of a subject, which branches on the split pairs
abbrev pub subject_tree : Problem → Subject → Branching
subject_tree p subject = record { subject = subject_problem p subject; levels = split_pairs (subject_problem p subject); from = [] }

-- a claim: that the subject holds, so that a family meets its problem, or that it does not
pub record Claim : Type 0 where
  pub subject : Subject
  pub holds : Bool

-- a tree that is not yet at its end: its subject, and the expected node, if any is
pub record Block : Type 0 where
  pub subject : Subject
  pub at : Option (List Rel)

-- where a list of claims stands: the derivation, the open tree, if one is, and the claims so far
pub record ClaimStand : Type 0 where
  pub proof : State
  pub block : Option Block
  pub claims : List Claim

-- one more claim, and no tree is open
abbrev pub with_claim : ClaimStand → Subject → Bool → ClaimStand
with_claim s subject holds = record s { block = None; claims = s.claims ++ record { subject = subject; holds = holds } ∷ [] }

-- a tree is open
abbrev pub with_block : ClaimStand → Block → ClaimStand
with_block s block = record s { block = Some block }

-- what is wrong with a claim that holds: first its subject, then its family
abbrev pub holds_fault : Problem → Subject → Family → Option RejectKind
holds_fault p subject f = fault_or (subject_fault p subject) (family_fault (subject_problem p subject) (family_from f.universe f.sets))

-- what a line of a list of claims is for: the derivation, a claim that holds, a tree that begins, one of its nodes, its end,
-- one that is left unfinished, the end of all, or nothing
pub data ClaimRole : Type 0 where
  ForProof : Line → ClaimRole
  ForHolding : Subject → Family → ClaimRole
  ForFailing : Subject → ClaimRole
  ForNode : ClaimRole
  ForEnd : ClaimRole
  ForQuit : ClaimRole
  ForDone : ClaimRole
  ForNothing : ClaimRole

abbrev pub end_role : Option (List Rel) → ClaimRole
end_role None = ForEnd
end_role (Some to) = ForNothing

abbrev pub claim_role : CertLine → ClaimRole
claim_role (Proof line) = ForProof line
claim_role (Holds subject family) = ForHolding subject family
claim_role (Fails subject) = ForFailing subject
claim_role (Branch depth last) = ForNode
claim_role (NoPoint depth last need clause) = ForNode
claim_role (NoRelation depth last pair) = ForNode
claim_role (End to) = end_role to
claim_role Quit = ForQuit
claim_role Done = ForDone
claim_role line = ForNothing

-- a line of the derivation
abbrev pub take_proof : ℕ → ClaimStand → Line → Status ClaimStand (List Claim)
take_proof n s line = unless (proof_fault s.proof line) (n + 1) (Going (n + 1) (record s { proof = next_state s.proof line }))

-- a line where no tree is open: no node is expected there
abbrev pub take_outside : Problem → ℕ → ClaimStand → ClaimRole → Status ClaimStand (List Claim)
take_outside p n s (ForProof line) = take_proof n s line
take_outside p n s (ForHolding subject f) = unless (holds_fault p subject f) (n + 1) (Going (n + 1) (with_claim s subject true))
take_outside p n s (ForFailing subject) = unless (subject_fault p subject) (n + 1) (Going (n + 1) (with_block s (record { subject = subject; at = Some [] })))
take_outside p n s ForNode = Rejected (n + 1) ExtraBranch
take_outside p n s ForEnd = Rejected (n + 1) ExtraBranch
take_outside p n s ForQuit = Rejected (n + 1) ExtraBranch
take_outside p n s ForDone = Ended s.claims
take_outside p n s ForNothing = Rejected (n + 1) ExtraBranch

-- the kind of a line that is not of a tree, where a node is expected or none is
abbrev pub stray_kind : Option (List Rel) → RejectKind
stray_kind None = ExtraBranch
stray_kind (Some m) = MissingBranch

-- a node of the open tree
abbrev pub take_node : Problem → ℕ → ClaimStand → Block → CertLine → Status ClaimStand (List Claim)
take_node p n s block line =
    unless (tree_fault (subject_tree p block.subject) s.proof block.at line) (n + 1)
    (Going (n + 1) (with_block s (record block { at = tree_next (subject_tree p block.subject) block.at line })))

-- a line within a tree
abbrev pub take_inside : Problem → ℕ → ClaimStand → Block → CertLine → ClaimRole → Status ClaimStand (List Claim)
take_inside p n s block line (ForProof proof) = take_proof n s proof
take_inside p n s block line (ForHolding subject f) = Rejected (n + 1) (stray_kind block.at)
take_inside p n s block line (ForFailing subject) = Rejected (n + 1) (stray_kind block.at)
take_inside p n s block line ForNode = take_node p n s block line
take_inside p n s block line ForEnd = unless (end_fault block.at None) (n + 1) (Going (n + 1) (with_claim s block.subject false))
take_inside p n s block line ForQuit = Going (n + 1) (record s { block = None })
take_inside p n s block line ForDone = Rejected (n + 1) (stray_kind block.at)
take_inside p n s block line ForNothing = Rejected (n + 1) (stray_kind block.at)

-- a line, where a tree is open or none is
abbrev pub take_claim : Problem → ℕ → ClaimStand → Option Block → CertLine → Status ClaimStand (List Claim)
take_claim p n s None line = take_outside p n s (claim_role line)
take_claim p n s (Some block) line = take_inside p n s block line (claim_role line)

-- one line further
abbrev pub claim_step : Problem → Status ClaimStand (List Claim) → CertLine → Status ClaimStand (List Claim)
claim_step p (Going n s) line = take_claim p n s s.block line
claim_step p (Ended claims) line = Ended claims
claim_step p (Rejected number kind) line = Rejected number kind

abbrev pub claim_steps : Problem → Status ClaimStand (List Claim) → List CertLine → Status ClaimStand (List Claim)
claim_steps p status [] = status
claim_steps p status (line ∷ lines) = claim_steps p (claim_step p status line) lines

-- a list of claims begins with none, and no tree is open
abbrev pub claim_start : Problem → ClaimStand
claim_start p = record { proof = first_state (given_clauses p); block = None; claims = [] }

-- what is wrong with the first line of a list of claims: the switches must be those of the problem
abbrev pub claims_fault : Problem → Switches → Option RejectKind
claims_fault p switches = if same_switches p.switches switches then None else Some WrongHeader

-- what the lines of a list of claims come to: those after its first line
abbrev pub claims_status : Problem → Switches → List CertLine → Status ClaimStand (List Claim)
claims_status p switches lines = unless (claims_fault p switches) 1 (claim_steps p (Going 1 (claim_start p)) lines)
