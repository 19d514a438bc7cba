-- What a log tells of claims keeps up with a walk.
use Rattle.std.proofs.Common.{◌≡◌, false, List, [], ◌∷◌, ◌++◌, map, Option, Some, None, Result, Ok, Err, OnOk, OnErr, refl, sym, ap, ◌∙◌, subst, IsTrue, append_assoc, append-nil}
use Rattle.std.specs.Prelude.{◌⊎◌, Bool}
use Rattle.std.proofs.Common.{inl, inr}
use Rattle.std.specs.Result.{IsErrAnd}
use Rattle.std.proofs.lemmas.Bool.{true≢false}
use Rattle.rcc5_core.specs.declared.Rel.{Rel}
use Rattle.lits_core.specs.declared.Line.{Line}
use Rattle.lits_core.specs.Derivation.{State, state_after, is_valid_derivation, SameState}
use Rattle.world_model.specs.Problem.{Problem}
use Rattle.point_query.specs.Asking.{AskerState, AskerGoes}
use Rattle.cert_text.specs.declared.line.Subject.{Subject}
use Rattle.cert_text.specs.declared.line.CertLine.{CertLine}
use Rattle.cert_text.specs.declared.line.CertLine.TheVariants.{Proof}
use Rattle.cert_text.specs.Logs.{Told, IsToldWith}
use Rattle.cert_rules.specs.Trees.{is_branch, tree_next}
use Rattle.cert_rules.specs.Listings.{Status, Going, Ended, Rejected}
use Rattle.cert_rules.specs.ClaimLists.{subject_tree, Claim, Block, ClaimStand, claim_start, claim_step, claim_steps}
use Rattle.cert_rules.specs.ClaimWriting.{open_at}
use Rattle.cert_rules.proofs.ClaimWriting.{claims_put_keep_up_law}
use Rattle.search_log.specs.declared.fault.StepFault.{StepFault}
use Rattle.search_log.specs.Logging.{AddsLines, AreToldWith, AllTold, NoneTold, IsFlushed, IsSameButLines}
use Rattle.split_search.specs.Claiming.{IsClaimBranchAlive, AllClaimBranchesAlive, ClaimsBegin, ToldClaims, KeepsOpen}
use Rattle.split_search.specs.Walking.{split_tree, next_node, TellsAlive, KeepsTree, KeepsPast}

-- branches of lines, and of more lines behind them
alive_append : (p : Problem) (status : Status ClaimStand (List Claim)) (a b : List CertLine) → AllClaimBranchesAlive p status a → AllClaimBranchesAlive p (claim_steps p status a) b →
    AllClaimBranchesAlive p status (a ++ b)
alive_append p status [] b first second = second
alive_append p status (line ∷ a) b first second = (first.0, alive_append p (claim_step p status line) a b first.1 second)

pub leaf_alive : (p : Problem) (status : Status ClaimStand (List Claim)) (line : CertLine) → is_branch line ≡ false → IsClaimBranchAlive p status line
leaf_alive p (Going n s) line leaf = λ yes. absurd (true≢false (sym yes ∙ leaf))
leaf_alive p (Ended claims) line leaf = tt
leaf_alive p (Rejected number kind) line leaf = tt

-- the beginning of a list of claims, with further lines that wait, with those that wait put, and with the line of a node put
begins_goes : (p : Problem) (waiting added : List Line) (one other : State) (block : Option Block) (claims : List Claim) (told : List CertLine) →
    ClaimsBegin p waiting one block claims told → IsTrue (is_valid_derivation one added) → SameState (state_after one added) other →
    ClaimsBegin p (waiting ++ added) other block claims told
begins_goes p waiting added one other block claims told k valid same = record {
  lines = k.lines;
  begins = k.begins;
  keeps_up = claims_put_keep_up_law.goes p k.lines waiting added one other block claims k.keeps_up valid same;
  alive = k.alive;
}

begins_flushed_one : (p : Problem) (line : Line) (waiting : List Line) (state : State) (block : Option Block) (claims : List Claim) (told : List CertLine) →
    ClaimsBegin p (line ∷ waiting) state block claims told → ClaimsBegin p waiting state block claims (told ++ Proof line ∷ [])
begins_flushed_one p line waiting state block claims told k = record {
  lines = k.lines ++ Proof line ∷ [];
  begins = ap (λ told. told ++ Proof line ∷ []) k.begins;
  keeps_up = claims_put_keep_up_law.flushed p k.lines line waiting state block claims k.keeps_up;
  alive = alive_append p (Going 1 (claim_start p)) k.lines (Proof line ∷ []) k.alive (leaf_alive p (claim_steps p (Going 1 (claim_start p)) k.lines) (Proof line) refl, tt);
}

begins_flushed : (p : Problem) (waiting : List Line) (state : State) (block : Option Block) (claims : List Claim) (told : List CertLine) →
    ClaimsBegin p waiting state block claims told → ClaimsBegin p [] state block claims (told ++ map Proof waiting)
begins_flushed p [] state block claims told k = subst (ClaimsBegin p [] state block claims) (sym (append-nil told)) k
begins_flushed p (line ∷ waiting) state block claims told k =
    subst (ClaimsBegin p [] state block claims) (append_assoc told (Proof line ∷ []) (map Proof waiting))
    (begins_flushed p waiting state block claims (told ++ Proof line ∷ []) (begins_flushed_one p line waiting state block claims told k))

begins_put : (p : Problem) (state : State) (claims : List Claim) (subject : Subject) (m : List Rel) (line : CertLine) (told : List CertLine) →
    ClaimsBegin p [] state (open_at subject (Some m)) claims told → TellsAlive (subject_tree p subject) state m line →
    ClaimsBegin p [] state (open_at subject (tree_next (subject_tree p subject) (Some m) line)) claims (told ++ line ∷ [])
begins_put p state claims subject m line told k tells = record {
  lines = k.lines ++ line ∷ [];
  begins = ap (λ told. told ++ line ∷ []) k.begins;
  keeps_up = claims_put_keep_up_law.node p k.lines state claims subject m line k.keeps_up tells.tells;
  alive = alive_append p (Going 1 (claim_start p)) k.lines (line ∷ []) k.alive (subst (λ status. IsClaimBranchAlive p status line) (sym k.keeps_up.reached) tells.alive, tt);
}

-- an asker as it was, or that went on
pub keeps_same : (q : Problem) (told : Told) (one : AskerState) (at : Option (List Rel)) → KeepsTree q told told one one at at
keeps_same q told one at p subject claims e lines is k =
    subst (λ told. ToldClaims p told one.solver.waiting one.solver.state (open_at subject at) claims) (sym is) k

pub keeps_goes : (q : Problem) (told : Told) (one other : AskerState) (at : Option (List Rel)) → AskerGoes one other → KeepsTree q told told one other at at
keeps_goes q told one other at goes p subject claims e lines is k =
    subst (λ told. ToldClaims p told other.solver.waiting other.solver.state (open_at subject at) claims) (sym is)
    (subst (λ waiting. ClaimsBegin p waiting other.solver.state (open_at subject at) claims lines) (sym goes.solver.waits)
    (begins_goes p one.solver.waiting goes.solver.added one.solver.state other.solver.state (open_at subject at) claims lines k goes.solver.leads.valid goes.solver.leads.after))

-- where nothing is told
pub keeps_untold : (q : Problem) (old new : Told) (one other : AskerState) (at next : Option (List Rel)) → old ≡ None → KeepsTree q old new one other at next
keeps_untold q old new one other at next none p subject claims e lines is k = let no : None ≡ Some lines = sym none ∙ is in absurd (cc)

pub keeps_refused : (q : Problem) (old new : Told) (one other : AskerState) (at next : Option (List Rel)) → new ≡ None → KeepsTree q old new one other at next
keeps_refused q old new one other at next none p subject claims e lines is k =
    subst (λ told. ToldClaims p told other.solver.waiting other.solver.state (open_at subject next) claims) (sym none) tt

-- over two calls
pub open_joins : (p : Problem) (subject : Subject) (claims : List Claim) (a b c : Told) (one two three : AskerState) (at mid next : Option (List Rel)) → AddsLines a b →
    KeepsOpen p subject claims a b one two at mid → KeepsOpen p subject claims b c two three mid next → KeepsOpen p subject claims a c one three at next
open_joins p subject claims a b c one two three at mid next adds first second lines is k =
    let added : AddsLines (Some lines) b = subst (λ a. AddsLines a b) is adds in
    second (lines ++ added.0) added.1
    (subst (λ told. ToldClaims p told two.solver.waiting two.solver.state (open_at subject mid) claims) added.1 (first lines is k))

pub keeps_joins : (q : Problem) (a b c : Told) (one two three : AskerState) (at mid next : Option (List Rel)) → AddsLines a b →
    KeepsTree q a b one two at mid → KeepsTree q b c two three mid next → KeepsTree q a c one three at next
keeps_joins q a b c one two three at mid next adds first second p subject claims e =
    open_joins p subject claims a b c one two three at mid next adds (first p subject claims e) (second p subject claims e)

-- an asker that went on, and then a call
pub keeps_after : (q : Problem) (old new : Told) (one two three : AskerState) (at next : Option (List Rel)) → AskerGoes one two → KeepsTree q old new two three at next →
    KeepsTree q old new one three at next
keeps_after q old new one two three at next goes second p subject claims e lines is k =
    second p subject claims e lines is
    (subst (λ told. ToldClaims p told two.solver.waiting two.solver.state (open_at subject at) claims) is (keeps_goes q old one two at goes p subject claims e lines is k))

-- a call, and then an asker that went on
pub keeps_before : (q : Problem) (old new : Told) (one two three : AskerState) (at next : Option (List Rel)) → KeepsTree q old new one two at next → AskerGoes two three →
    KeepsTree q old new one three at next
keeps_before q old new one two three at next first goes p subject claims e lines is k = by new (first p subject claims e lines is k)
  where
    by : (told : Told) → ToldClaims p told two.solver.waiting two.solver.state (open_at subject next) claims → ToldClaims p told three.solver.waiting three.solver.state (open_at subject next) claims
    by None up = tt
    by (Some told) up = keeps_goes q (Some told) two three next goes p subject claims e told refl up

-- the waiting lines are put, or none is
keeps_all_told : (q : Problem) (old new : Told) (one other : AskerState) (at : Option (List Rel)) → IsSameButLines one other → AllTold old new one other → KeepsTree q old new one other at at
keeps_all_told q old new one other at same all p subject claims e lines is k =
    let now : new ≡ Some (lines ++ map Proof one.solver.waiting) = subst (λ old. AreToldWith old (map Proof one.solver.waiting) new) is all.told in
    subst (λ told. ToldClaims p told other.solver.waiting other.solver.state (open_at subject at) claims) (sym now)
    (subst (λ waiting. ClaimsBegin p waiting other.solver.state (open_at subject at) claims (lines ++ map Proof one.solver.waiting)) (sym all.none_waits)
    (subst (λ state. ClaimsBegin p [] state (open_at subject at) claims (lines ++ map Proof one.solver.waiting)) (sym same.state)
    (begins_flushed p one.solver.waiting one.solver.state (open_at subject at) claims lines k)))

keeps_none_told : (q : Problem) (old new : Told) (one other : AskerState) (at : Option (List Rel)) → IsSameButLines one other → NoneTold old new one other → KeepsTree q old new one other at at
keeps_none_told q old new one other at same none p subject claims e lines is k =
    subst (λ told. ToldClaims p told other.solver.waiting other.solver.state (open_at subject at) claims) (sym (none.told ∙ is))
    (subst (λ waiting. ClaimsBegin p waiting other.solver.state (open_at subject at) claims lines) (sym none.waits)
    (subst (λ state. ClaimsBegin p one.solver.waiting state (open_at subject at) claims lines) (sym same.state) k))

pub keeps_flushed : {T : Type 0} (r : Result T StepFault) (q : Problem) (old new : Told) (one other : AskerState) (at : Option (List Rel)) → IsSameButLines one other → IsFlushed r old new one other →
    KeepsTree q old new one other at at
keeps_flushed (Ok v) q old new one other at same flushed = keeps_all_told q old new one other at same flushed.ok
keeps_flushed (Err fault) q old new one other at same flushed = by flushed.err
  where
    by : (new ≡ None) ⊎ NoneTold old new one other → KeepsTree q old new one other at at
    by (inl none) = keeps_refused q old new one other at at none
    by (inr none) = keeps_none_told q old new one other at same none

-- with the line of the expected node put, where none waits
keeps_put : (q : Problem) (old new : Told) (one : AskerState) (m : List Rel) (line : CertLine) → one.solver.waiting ≡ [] → TellsAlive (split_tree q) one.solver.state m line → IsToldWith old line new →
    KeepsTree q old new one one (Some m) (next_node q (is_branch line) m)
keeps_put q old new one m line none tells told p subject claims e lines is k =
    let now : new ≡ Some (lines ++ line ∷ []) = subst (λ old. IsToldWith old line new) is told in
    let first : ClaimsBegin p [] one.solver.state (open_at subject (Some m)) claims lines =
    subst (λ waiting. ClaimsBegin p waiting one.solver.state (open_at subject (Some m)) claims lines) none k in
    let of_subject : TellsAlive (subject_tree p subject) one.solver.state m line = subst (λ q. TellsAlive (split_tree q) one.solver.state m line) (sym e) tells in
    subst (λ told. ToldClaims p told one.solver.waiting one.solver.state (open_at subject (next_node q (is_branch line) m)) claims) (sym now)
    (subst (λ waiting. ClaimsBegin p waiting one.solver.state (open_at subject (next_node q (is_branch line) m)) claims (lines ++ line ∷ [])) (sym none)
    (subst (λ q. ClaimsBegin p [] one.solver.state (open_at subject (next_node q (is_branch line) m)) claims (lines ++ line ∷ [])) e
    (begins_put p one.solver.state claims subject m line lines first of_subject)))

pub keeps_put_if : {T : Type 0} (r : Result T StepFault) (q : Problem) (old new : Told) (one : AskerState) (m : List Rel) (line : CertLine) → one.solver.waiting ≡ [] →
    TellsAlive (split_tree q) one.solver.state m line → OnOk r (IsToldWith old line new) → OnErr r (new ≡ None) → KeepsPast q r old new one one m (is_branch line)
keeps_put_if (Ok v) q old new one m line none tells told err = keeps_put q old new one m line none tells told
keeps_put_if (Err fault) q old new one m line none tells told err = keeps_refused q old new one one (Some m) (Some m) err

-- at an error the same node is next
pub keeps_err : {T : Type 0} (Q : StepFault → Type 0) (r : Result T StepFault) (q : Problem) (old new : Told) (one other : AskerState) (m : List Rel) (branches : Bool) → IsErrAnd r Q →
    KeepsTree q old new one other (Some m) (Some m) → KeepsPast q r old new one other m branches
keeps_err Q (Ok v) q old new one other m branches h k = absurd h
keeps_err Q (Err fault) q old new one other m branches h k = k

-- an asker that tells what another told
pub tells_same : (q : Problem) (one other : AskerState) (m : List Rel) (line : CertLine) → IsSameButLines one other → TellsAlive (split_tree q) one.solver.state m line →
    TellsAlive (split_tree q) other.solver.state m line
tells_same q one other m line same tells = subst (λ state. TellsAlive (split_tree q) state m line) (sym same.state) tells
