-- Lines of claims in a log: what one of them leads to, and what the lines that wait do.
use Rattle.std.proofs.Common.{◌≡◌, false, List, [], ◌∷◌, ◌++◌, map, Option, Some, None, Result, Ok, Err, OnOk, OnErr, refl, sym, ap, ◌∙◌, subst, append_assoc, append-nil, inl, inr}
use Rattle.std.specs.Prelude.{◌⊎◌}
use Rattle.std.specs.Result.{IsErrAnd}
use Rattle.lits_core.specs.declared.Line.{Line}
use Rattle.lits_core.specs.Derivation.{State}
use Rattle.world_model.specs.Problem.{Problem}
use Rattle.point_query.specs.Asking.{AskerState}
use Rattle.cert_text.specs.declared.line.CertLine.{CertLine}
use Rattle.cert_text.specs.declared.line.CertLine.TheVariants.{Proof}
use Rattle.cert_text.specs.Logs.{Told, IsToldWith}
use Rattle.cert_rules.specs.Trees.{is_branch}
use Rattle.cert_rules.specs.Listings.{Status, Going}
use Rattle.cert_rules.specs.ClaimLists.{Claim, Block, ClaimStand, claim_start, claim_step}
use Rattle.cert_rules.specs.ClaimWriting.{ClaimsKeepUp}
use Rattle.cert_rules.proofs.ClaimWriting.{claims_put_keep_up_law}
use Rattle.search_log.specs.declared.fault.StepFault.{StepFault}
use Rattle.search_log.specs.Logging.{AddsLines, AreToldWith, AllTold, NoneTold, IsFlushed, IsSameButLines}
use Rattle.split_search.specs.Claiming.{AllClaimBranchesAlive, ClaimsBegin, ToldClaims}
use Rattle.pick_search.specs.Blocks.Blocks.{AreClaimsTold}
use Rattle.pick_search.specs.Blocks.Steps.{LineLeads, ClaimsLeadTo, LeadsSomewhere, LeadsIf}
use Rattle.pick_search.proofs.blocks.Joins.{told_then}
use Rattle.split_search.proofs.Told.{leaf_alive}

-- no branch more: each still stands at an alive node
pub alive_more : (p : Problem) (status : Status ClaimStand (List Claim)) (lines : List CertLine) (line : CertLine) → is_branch line ≡ false → AllClaimBranchesAlive p status lines →
    AllClaimBranchesAlive p status (lines ++ line ∷ [])
alive_more p status [] line leaf alive = (leaf_alive p status line leaf, tt)
alive_more p status (first ∷ lines) line leaf alive = (alive.0, alive_more p (claim_step p status first) lines line leaf alive.1)

-- the beginning of a list of claims, with a line put that keeps up
begins_more : (p : Problem) (line : CertLine) (waiting left : List Line) (state : State) (block next : Option Block) (claims more : List Claim) (told : List CertLine) → is_branch line ≡ false →
    ((lines : List CertLine) → ClaimsKeepUp p lines waiting state block claims → ClaimsKeepUp p (lines ++ line ∷ []) left state next more) →
    ClaimsBegin p waiting state block claims told → ClaimsBegin p left state next more (told ++ line ∷ [])
begins_more p line waiting left state block next claims more told leaf leads k = record {
  lines = k.lines ++ line ∷ [];
  begins = ap (λ told. told ++ line ∷ []) k.begins;
  keeps_up = leads k.lines k.keeps_up;
  alive = alive_more p (Going 1 (claim_start p)) k.lines line leaf k.alive;
}

-- with all that wait put
begins_flushed : (p : Problem) (waiting : List Line) (state : State) (block : Option Block) (claims : List Claim) (told : List CertLine) →
    ClaimsBegin p waiting state block claims told → ClaimsBegin p [] state block claims (told ++ map Proof waiting)
begins_flushed p [] state block claims told k = subst (ClaimsBegin p [] state block claims) (sym (append-nil told)) k
begins_flushed p (line ∷ waiting) state block claims told k =
    subst (ClaimsBegin p [] state block claims) (append_assoc told (Proof line ∷ []) (map Proof waiting))
    (begins_flushed p waiting state block claims (told ++ Proof line ∷ [])
    (begins_more p (Proof line) (line ∷ waiting) waiting state block block claims claims told refl (λ lines. claims_put_keep_up_law.flushed p lines line waiting state block claims) k))

-- where nothing is told any more
leads_refused : (p : Problem) (old new : Told) (one other : AskerState) (block next : Option Block) (claims more : List Claim) → new ≡ None → ClaimsLeadTo p old new one other block claims next more
leads_refused p old new one other block next claims more none lines is k =
    subst (λ told. ToldClaims p told other.solver.waiting other.solver.state next more) (sym none) tt

-- where nothing changes
pub leads_same : (p : Problem) (told : Told) (one : AskerState) (block : Option Block) (claims : List Claim) → ClaimsLeadTo p told told one one block claims block claims
leads_same p told one block claims lines is k = subst (λ told. ToldClaims p told one.solver.waiting one.solver.state block claims) (sym is) k

-- a known tree and known claims are some
pub leads_some : (p : Problem) (old new : Told) (one other : AskerState) (block next : Option Block) (claims more : List Claim) → ClaimsLeadTo p old new one other block claims next more →
    LeadsSomewhere p old new one other block claims
leads_some p old new one other block next claims more leads lines is k = record { block = next; claims = more; told_claims = leads lines is k }

-- over two calls
pub leads_join : (p : Problem) (a b c : Told) (one two three : AskerState) (block mid next : Option Block) (claims mids more : List Claim) → AddsLines a b →
    ClaimsLeadTo p a b one two block claims mid mids → ClaimsLeadTo p b c two three mid mids next more → ClaimsLeadTo p a c one three block claims next more
leads_join p a b c one two three block mid next claims mids more adds first second lines is k =
    told_then (ClaimsBegin p two.solver.waiting two.solver.state mid mids) (ToldClaims p c three.solver.waiting three.solver.state next more) a b lines is adds (first lines is k) second

pub leads_aside : (p : Problem) (a b c : Told) (one two three : AskerState) (block mid : Option Block) (claims mids : List Claim) → AddsLines a b → ClaimsLeadTo p a b one two block claims mid mids →
    LeadsSomewhere p b c two three mid mids → LeadsSomewhere p a c one three block claims
leads_aside p a b c one two three block mid claims mids adds first second lines is k =
    told_then (ClaimsBegin p two.solver.waiting two.solver.state mid mids) (AreClaimsTold p c three) a b lines is adds (first lines is k) second

pub leads_behind : {T : Type 0} (r : Result T StepFault) (p : Problem) (a b c : Told) (one two three : AskerState) (block mid next : Option Block) (claims mids more : List Claim) → AddsLines a b →
    ClaimsLeadTo p a b one two block claims mid mids → LeadsIf p r b c two three mid mids next more → LeadsIf p r a c one three block claims next more
leads_behind (Ok value) p a b c one two three block mid next claims mids more adds first second = leads_join p a b c one two three block mid next claims mids more adds first second
leads_behind (Err fault) p a b c one two three block mid next claims mids more adds first second = leads_aside p a b c one two three block mid claims mids adds first second

-- at a fault, whatever was to be told
pub leads_err : {T : Type 0} (Q : StepFault → Type 0) (r : Result T StepFault) (p : Problem) (old new : Told) (one other : AskerState) (block next : Option Block) (claims more : List Claim) → IsErrAnd r Q →
    LeadsSomewhere p old new one other block claims → LeadsIf p r old new one other block claims next more
leads_err Q (Ok value) p old new one other block next claims more h leads = absurd h
leads_err Q (Err fault) p old new one other block next claims more h leads = leads

-- the waiting lines are put, or none is
leads_all_told : (p : Problem) (old new : Told) (one other : AskerState) (block : Option Block) (claims : List Claim) → IsSameButLines one other → AllTold old new one other →
    ClaimsLeadTo p old new one other block claims block claims
leads_all_told p old new one other block claims same all lines is k =
    let now : new ≡ Some (lines ++ map Proof one.solver.waiting) = subst (λ old. AreToldWith old (map Proof one.solver.waiting) new) is all.told in
    subst (λ told. ToldClaims p told other.solver.waiting other.solver.state block claims) (sym now)
    (subst (λ waiting. ClaimsBegin p waiting other.solver.state block claims (lines ++ map Proof one.solver.waiting)) (sym all.none_waits)
    (subst (λ state. ClaimsBegin p [] state block claims (lines ++ map Proof one.solver.waiting)) (sym same.state)
    (begins_flushed p one.solver.waiting one.solver.state block claims lines k)))

leads_none_told : (p : Problem) (old new : Told) (one other : AskerState) (block : Option Block) (claims : List Claim) → IsSameButLines one other → NoneTold old new one other →
    ClaimsLeadTo p old new one other block claims block claims
leads_none_told p old new one other block claims same none lines is k =
    subst (λ told. ToldClaims p told other.solver.waiting other.solver.state block claims) (sym (none.told ∙ is))
    (subst (λ waiting. ClaimsBegin p waiting other.solver.state block claims lines) (sym none.waits)
    (subst (λ state. ClaimsBegin p one.solver.waiting state block claims lines) (sym same.state) k))

pub leads_flushed : {T : Type 0} (r : Result T StepFault) (p : Problem) (old new : Told) (one other : AskerState) (block : Option Block) (claims : List Claim) → IsSameButLines one other →
    IsFlushed r old new one other → ClaimsLeadTo p old new one other block claims block claims
leads_flushed (Ok value) p old new one other block claims same flushed = leads_all_told p old new one other block claims same flushed.ok
leads_flushed (Err fault) p old new one other block claims same flushed = by flushed.err
  where
    by : (new ≡ None) ⊎ NoneTold old new one other → ClaimsLeadTo p old new one other block claims block claims
    by (inl none) = leads_refused p old new one other block block claims claims none
    by (inr none) = leads_none_told p old new one other block claims same none

-- a line is put where none waits
leads_put : (p : Problem) (old new : Told) (one : AskerState) (line : CertLine) (block next : Option Block) (claims more : List Claim) → one.solver.waiting ≡ [] → is_branch line ≡ false →
    LineLeads p one.solver.state line block claims next more → IsToldWith old line new → ClaimsLeadTo p old new one one block claims next more
leads_put p old new one line block next claims more none leaf leads told lines is k =
    let now : new ≡ Some (lines ++ line ∷ []) = subst (λ old. IsToldWith old line new) is told in
    let first : ClaimsBegin p [] one.solver.state block claims lines = subst (λ waiting. ClaimsBegin p waiting one.solver.state block claims lines) none k in
    subst (λ told. ToldClaims p told one.solver.waiting one.solver.state next more) (sym now)
    (subst (λ waiting. ClaimsBegin p waiting one.solver.state next more (lines ++ line ∷ [])) (sym none)
    (begins_more p line [] [] one.solver.state block next claims more lines leaf leads first))

pub leads_put_if : {T : Type 0} (r : Result T StepFault) (p : Problem) (old new : Told) (one : AskerState) (line : CertLine) (block next : Option Block) (claims more : List Claim) →
    one.solver.waiting ≡ [] → is_branch line ≡ false → LineLeads p one.solver.state line block claims next more → OnOk r (IsToldWith old line new) → OnErr r (new ≡ None) →
    LeadsIf p r old new one one block claims next more
leads_put_if (Ok value) p old new one line block next claims more none leaf leads told err = leads_put p old new one line block next claims more none leaf leads told
leads_put_if (Err fault) p old new one line block next claims more none leaf leads told err =
    leads_some p old new one one block next claims more (leads_refused p old new one one block next claims more err)

-- a line leads on by an asker with the same clauses
pub leads_alike : (p : Problem) (one other : AskerState) (line : CertLine) (block next : Option Block) (claims more : List Claim) → IsSameButLines one other →
    LineLeads p one.solver.state line block claims next more → LineLeads p other.solver.state line block claims next more
leads_alike p one other line block next claims more same leads = subst (λ state. LineLeads p state line block claims next more) (sym same.state) leads
