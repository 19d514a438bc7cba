-- A whole certificate, line by line.
use Rattle.std.proofs.Common.{◌≡◌, ◌≢◌, ℕ, ◌+◌, List, [], ◌∷◌, Option, Some, None, Result, Ok, Err, OnOk, refl, sym, ap, subst, ◌∙◌}
use Rattle.std.specs.Option.{option_map}
use Rattle.lits_core.specs.declared.Line.{Line}
use Rattle.lits_core.specs.declared.LineFault.{LineFault}
use Rattle.lits_core.specs.declared.LineFault.TheVariants.{UnknownHint, HintNotUnit, NoConflict, IdUsed, NoMemory}
use Rattle.lits_core.specs.Derivation.{State, line_fault, next_state}
use Rattle.world_model.specs.Problem.{Problem}
use Rattle.cert_text.specs.declared.line.CertLine.{CertLine}
use Rattle.cert_text.specs.declared.line.CertLine.TheVariants.{Proof}
use Rattle.cert_text.specs.Ends.{TextEnd, Whole, Faulty}
use Rattle.cert_reader.specs.declared.fault.CertTextKind.{CertTextKind}
use Rattle.cert_reader.specs.Reading.{Reading, with_first}
use Rattle.cert_rules.specs.declared.RejectKind.{RejectKind}
use Rattle.cert_rules.specs.Trees.{Branching}
use Rattle.cert_rules.specs.Listings.{Stand, Going, Ended, Rejected, Listed, unless, as_kind, steps}
use Rattle.cert_rules.specs.ClaimLists.{ClaimStand, Claim, Block, take_proof, take_claim, claim_steps}
use Rattle.cert_rules.specs.Files.{Verdict, Rejects, Listing, ClaimList, as_listing, settle}
use Rattle.cert_check.specs.declared.fault.Stop.{Stop}
use Rattle.cert_check.specs.declared.fault.Stop.TheVariants as stop
use Rattle.cert_check.specs.declared.listing.Turn.{Turn}
use Rattle.cert_check.specs.declared.listing.Turn.TheVariants as turn
use Rattle.cert_check.specs.declared.listing.Listing.{Listing as ListingSoFar}
use Rattle.cert_check.specs.declared.claims.Claims.{Claims as ClaimsSoFar}
use Rattle.cert_check.specs.declared.checker.Checker.{Checker}
use Rattle.cert_check.specs.declared.checker.Checker.TheVariants as kind
use Rattle.cert_check.specs.Checkers.{stand_of, stop_of, IsStep}
use Rattle.cert_check.specs.Claiming.{block_of, claim_stand, IsClaimStep}
use Rattle.cert_check.specs.Whole.{answer_from, ended_answer, IsTaken}

-- what has ended, or was rejected, stays
pub steps_ended : (tree : Branching) (listed : Listed) (lines : List CertLine) → steps tree (Ended listed) lines ≡ Ended listed
steps_ended tree listed [] = refl
steps_ended tree listed (line ∷ lines) = steps_ended tree listed lines

pub steps_rejected : (tree : Branching) (n : ℕ) (kind : RejectKind) (lines : List CertLine) → steps tree (Rejected n kind) lines ≡ Rejected n kind
steps_rejected tree n kind [] = refl
steps_rejected tree n kind (line ∷ lines) = steps_rejected tree n kind lines

pub claims_ended : (p : Problem) (claims : List Claim) (lines : List CertLine) → claim_steps p (Ended claims) lines ≡ Ended claims
claims_ended p claims [] = refl
claims_ended p claims (line ∷ lines) = claims_ended p claims lines

pub claims_rejected : (p : Problem) (n : ℕ) (kind : RejectKind) (lines : List CertLine) → claim_steps p (Rejected n kind) lines ≡ Rejected n kind
claims_rejected p n kind [] = refl
claims_rejected p n kind (line ∷ lines) = claims_rejected p n kind lines

settle_ended : (S : Type 0) {R : Type 0} (verdict : R → Verdict) (r : R) (ends : TextEnd CertTextKind) → settle {S = S} verdict (Ended r) ends ≡ ended_answer (verdict r) ends
settle_ended S verdict r Whole = refl
settle_ended S verdict r (Faulty n kind) = refl

settle_rejected : (S R : Type 0) (verdict : R → Verdict) (n : ℕ) (kind : RejectKind) (ends : TextEnd CertTextKind) → settle {S = S} {R = R} verdict (Rejected n kind) ends ≡ Rejects n kind
settle_rejected S R verdict n kind Whole = refl
settle_rejected S R verdict n kind (Faulty m fault) = refl

-- a line of a listing was taken
pub listing_taken : (proof : State) (old new : ListingSoFar) (line : CertLine) (r : Result Turn Stop) → IsStep old.walk.tree (stand_of proof old) line (stand_of proof new) r →
    OnOk r (new.walk.tree ≡ old.walk.tree) → IsTaken proof (kind.Listing old) line proof (kind.Listing new) r
listing_taken proof old new line (Ok turn.Further) is same = λ n read.
    ap (λ status. settle (as_listing old.walk.tree.from) (steps old.walk.tree status read.lines) read.ends) (is n)
    ∙ ap (λ tree. settle (as_listing tree.from) (steps tree (Going (n + 1) (stand_of proof new)) read.lines) read.ends) (sym same)
listing_taken proof old new line (Ok (turn.Ended to)) is same = λ n read.
    ap (λ status. settle (as_listing old.walk.tree.from) (steps old.walk.tree status read.lines) read.ends) (is n)
    ∙ ap (λ status. settle (as_listing old.walk.tree.from) status read.ends) (steps_ended old.walk.tree (record { to = to; worlds = new.worlds.items }) read.lines)
    ∙ settle_ended Stand (as_listing old.walk.tree.from) (record { to = to; worlds = new.worlds.items }) read.ends
    ∙ ap (λ tree. ended_answer (Listing tree.from to new.worlds.items) read.ends) (sym same)
listing_taken proof old new line (Err (stop.Rejected kind)) is same = λ n read.
    ap (λ status. settle (as_listing old.walk.tree.from) (steps old.walk.tree status read.lines) read.ends) (is n)
    ∙ ap (λ status. settle (as_listing old.walk.tree.from) status read.ends) (steps_rejected old.walk.tree (n + 1) kind read.lines)
    ∙ settle_rejected Stand Listed (as_listing old.walk.tree.from) (n + 1) kind read.ends
listing_taken proof old new line (Err stop.NoMemory) is same = tt

-- a line of a list of claims was taken
pub claims_taken : (proof : State) (old new : ClaimsSoFar) (line : CertLine) (r : Result Turn Stop) → IsClaimStep old.problem (claim_stand proof old) line (claim_stand proof new) r → new.problem ≡ old.problem →
    IsTaken proof (kind.Claims old) line proof (kind.Claims new) r
claims_taken proof old new line (Ok turn.Further) is same = λ n read.
    ap (λ status. settle ClaimList (claim_steps old.problem status read.lines) read.ends) (is n)
    ∙ ap (λ p. settle ClaimList (claim_steps p (Going (n + 1) (claim_stand proof new)) read.lines) read.ends) (sym same)
claims_taken proof old new line (Ok (turn.Ended to)) is same = λ n read.
    ap (λ status. settle ClaimList (claim_steps old.problem status read.lines) read.ends) (is n)
    ∙ ap (λ status. settle ClaimList status read.ends) (claims_ended old.problem new.claims.items read.lines)
    ∙ settle_ended ClaimStand ClaimList new.claims.items read.ends
claims_taken proof old new line (Err (stop.Rejected kind)) is same = λ n read.
    ap (λ status. settle ClaimList (claim_steps old.problem status read.lines) read.ends) (is n)
    ∙ ap (λ status. settle ClaimList status read.ends) (claims_rejected old.problem (n + 1) kind read.lines)
    ∙ settle_rejected ClaimStand (List Claim) ClaimList (n + 1) kind read.ends
claims_taken proof old new line (Err stop.NoMemory) is same = tt

-- a list of claims takes a line of the derivation whether a tree is open or none is
claim_proof : (p : Problem) (n : ℕ) (s : ClaimStand) (o : Option Block) (line : Line) → take_claim p n s o (Proof line) ≡ take_proof n s line
claim_proof p n s None line = refl
claim_proof p n s (Some block) line = refl

-- so the answer is that of the rules of a derivation, of either kind
proof_going : (checker : Checker) (proof : State) (line : Line) (n : ℕ) (read : Reading) → line_fault proof line ≡ None →
    answer_from proof checker n (with_first (Proof line) read) ≡ answer_from (next_state proof line) checker (n + 1) read
proof_going (kind.Listing c) proof line n read valid =
    ap (λ fault. settle (as_listing c.walk.tree.from) (steps c.walk.tree (unless (option_map as_kind fault) (n + 1) (Going (n + 1) (stand_of (next_state proof line) c))) read.lines) read.ends) valid
proof_going (kind.Claims c) proof line n read valid =
    ap (λ status. settle ClaimList (claim_steps c.problem status read.lines) read.ends) (claim_proof c.problem n (claim_stand proof c) (option_map block_of c.block) line)
    ∙ ap (λ fault. settle ClaimList (claim_steps c.problem (unless (option_map as_kind fault) (n + 1) (Going (n + 1) (claim_stand (next_state proof line) c))) read.lines) read.ends) valid

proof_rejected : (checker : Checker) (proof : State) (line : Line) (f : LineFault) (n : ℕ) (read : Reading) → line_fault proof line ≡ Some f →
    answer_from proof checker n (with_first (Proof line) read) ≡ Rejects (n + 1) (as_kind f)
proof_rejected (kind.Listing c) proof line f n read fault =
    ap (λ fault. settle (as_listing c.walk.tree.from) (steps c.walk.tree (unless (option_map as_kind fault) (n + 1) (Going (n + 1) (stand_of (next_state proof line) c))) read.lines) read.ends) fault
    ∙ ap (λ status. settle (as_listing c.walk.tree.from) status read.ends) (steps_rejected c.walk.tree (n + 1) (as_kind f) read.lines)
    ∙ settle_rejected Stand Listed (as_listing c.walk.tree.from) (n + 1) (as_kind f) read.ends
proof_rejected (kind.Claims c) proof line f n read fault =
    ap (λ status. settle ClaimList (claim_steps c.problem status read.lines) read.ends) (claim_proof c.problem n (claim_stand proof c) (option_map block_of c.block) line)
    ∙ ap (λ fault. settle ClaimList (claim_steps c.problem (unless (option_map as_kind fault) (n + 1) (Going (n + 1) (claim_stand (next_state proof line) c))) read.lines) read.ends) fault
    ∙ ap (λ status. settle ClaimList status read.ends) (claims_rejected c.problem (n + 1) (as_kind f) read.lines)
    ∙ settle_rejected ClaimStand (List Claim) ClaimList (n + 1) (as_kind f) read.ends

-- a line of the derivation was taken
pub proof_taken : (checker : Checker) (proof next : State) (line : Line) → line_fault proof line ≡ None → next ≡ next_state proof line → IsTaken proof checker (Proof line) next checker (Ok turn.Further)
proof_taken checker proof next line valid is =
    subst (λ next. IsTaken proof checker (Proof line) next checker (Ok turn.Further)) (sym is) (λ n read. proof_going checker proof line n read valid)

-- or is not
not_taken : (checker : Checker) (proof next : State) (line : Line) (f : LineFault) → (f ≢ NoMemory → line_fault proof line ≡ Some f) → IsTaken proof checker (Proof line) next checker (Err (stop_of f))
not_taken checker proof next line UnknownHint at = λ n read. proof_rejected checker proof line UnknownHint n read (at (λ e. cc))
not_taken checker proof next line HintNotUnit at = λ n read. proof_rejected checker proof line HintNotUnit n read (at (λ e. cc))
not_taken checker proof next line NoConflict at = λ n read. proof_rejected checker proof line NoConflict n read (at (λ e. cc))
not_taken checker proof next line IdUsed at = λ n read. proof_rejected checker proof line IdUsed n read (at (λ e. cc))
not_taken checker proof next line NoMemory at = tt

pub proof_not_taken : (checker : Checker) (proof next : State) (line : Line) (f : LineFault) (why : Stop) → why ≡ stop_of f → (f ≢ NoMemory → line_fault proof line ≡ Some f) →
    IsTaken proof checker (Proof line) next checker (Err why)
proof_not_taken checker proof next line f why is at = subst (λ why. IsTaken proof checker (Proof line) next checker (Err why)) (sym is) (not_taken checker proof next line f at)
