-- An answer whose certificate a store holds.
use Rattle.std.proofs.Common.{◌≡◌, ℕ, ◌≤◌, Bool, false, length, List, [], ◌∷◌, ◌++◌, Option, None, Some, IfSome, IfOk, OnOk, Result, Ok, Err, refl, sym, ap, subst, ◌∙◌}
use Rattle.std.specs.Prelude.{⊤, ◌^◌}
use Rattle.std.specs.Result.{IsErrAnd}
use Rattle.std.specs.Borrow.{Bor}
use Rattle.outer_store.specs.Contents.{Contents, OthersKept, emptied}
use Rattle.outer_store.specs.Faults.{Counts, Rose, IfFailed}
use Rattle.outer_store.specs.declared.fault.StoreFault.{StoreFault}
use Rattle.outer_store.specs.declared.fault.StoreFault.TheVariants.{Failed, NoMemory}
use Rattle.lits_core.specs.Derivation.{State}
use Rattle.world_model.specs.Problem.{Problem}
use Rattle.cert_text.specs.declared.line.CertLine.{CertLine}
use Rattle.cert_text.specs.declared.line.CertLine.TheVariants.{Claims, Done}
use Rattle.cert_text.specs.Logs.{Told, lines_in, lines_held}
use Rattle.cert_text.specs.declared.store_log.StoreLog.{StoreLog}
use Rattle.cert_text.proofs.StoreLemmas.{told_bytes, held_all}
use Rattle.cert_text.specs.StoreLogs.{log_store, log_name, is_refused, waiting_text, log_lines, log_faults, log_steady, log_quiet}
use Rattle.cert_reader.specs.Reading.{Reading}
use Rattle.cert_rules.specs.Listings.{Going}
use Rattle.cert_rules.specs.ClaimLists.{Claim, claim_start}
use Rattle.cert_rules.specs.ClaimWriting.{ClaimsKeepUp}
use Rattle.cert_check.proofs.WrittenClaims.{written_claims_are_read, written_claims_are_accepted_law}
use Rattle.search_log.specs.declared.fault.StepFault.{StepFault}
use Rattle.search_log.specs.declared.fault.StepFault.TheVariants as step
use Rattle.search_log.specs.Logging.{IfLogFailed, LogGoes, store_fault}
use Rattle.split_search.specs.Claiming.{AllClaimBranchesAlive}
use Rattle.pick_search.proofs.blocks.Steps.{alive_more}
use Rattle.outer_store.specs.States.{StoreState, IsQuiet, OnlyWritten, IsQuiet-joins}
use Rattle.run_ends.specs.Runs.{HasFailed}
use Rattle.run_ends.proofs.OneName.{kept_but_one, write_failed}
use Rattle.claims_run.specs.declared.question.Question.{Question}
use Rattle.claims_run.specs.declared.question.Answer.{Answer}
use Rattle.claims_run.specs.Answering.{IsRight, IsClaimed, ArePrunedClaims, IsClaimsCert}
use Rattle.claims_run.specs.Certifying.{IsToldWhole, IsCertLeft, IsSettledWith}

-- an answer of a step as one of the store
abbrev pub as_stored : Result Answer StepFault → Result Answer StoreFault
as_stored (Ok answer) = Ok answer
as_stored (Err fault) = Err (store_fault fault)

if_ok_as : (r : Result Answer StepFault) (P : Answer → Type 0) → IfOk r P → IfOk (as_stored r) P
if_ok_as (Ok answer) P h = h
if_ok_as (Err fault) P h = tt

-- a certificate's name that can't be made empty
refused_cause : (T : Type 0) (e : StoreFault) (name : List ℕ) (store store' : StoreState)
    → IfFailed {T = T} (Err e) (Rose (store.writes name) (store'.writes name)) (IsQuiet store store')
    → IfFailed {T = Answer} (Err e) (HasFailed (name ∷ []) store.writes store'.writes) (IsQuiet store store')
refused_cause T Failed name store store' cause = write_failed name store.writes store'.writes cause
refused_cause T NoMemory name store store' cause = cause

pub create_refused : (T : Type 0) (e : StoreFault) (r : Result Answer StoreFault) (p : Problem) (asked : Question) (name : List ℕ) (store store' : StoreState) → IsErrAnd r (λ f. f ≡ e)
    → IfFailed {T = T} (Err e) (Rose (store.writes name) (store'.writes name)) (IsQuiet store store')
    → OthersKept name store.held store'.held → IsSettledWith p asked (Some name) r store store'
create_refused T e (Ok answer) p asked name store store' is cause others = absurd is
create_refused T e (Err f) p asked name store store' is cause others =
    subst (λ f. IsSettledWith p asked (Some name) (Err f) store store') (sym is)
    (record { right = tt; left = tt; kept = kept_but_one name store.held store'.held others; cause = refused_cause T e name store store' cause })

-- claims that keep up, with `done` behind them, are pruned, by bytes that spell them
pruned : (p : Problem) (lines : List CertLine) (state : State) (claims : List Claim) (bytes : List ℕ) → ClaimsKeepUp p lines [] state None claims → AllClaimBranchesAlive p (Going 1 (claim_start p)) lines
    → lines_in bytes ≡ Some (Claims p.switches ∷ (lines ++ Done ∷ [])) → length bytes ≤ 2 ^ 36 → ArePrunedClaims p claims bytes
pruned p lines state claims bytes keeps alive spelled small = record {
  accepted = written_claims_are_accepted_law p lines state claims bytes keeps spelled small;
  lines = lines ++ Done ∷ [];
  read = ap (λ (read : Reading). read.lines) (written_claims_are_read p lines state claims bytes keeps spelled small);
  alive = alive_more p (Going 1 (claim_start p)) lines Done refl alive;
}

-- a name that was made empty and then holds a certificate's lines
cert_left : (p : Problem) (IsMade : List Claim → Type 0) (name : List ℕ) (refused : Bool) (held mid held' : Contents) → mid name ≡ emptied (held name)
    → IsToldWhole p IsMade (lines_held false (mid name)) (lines_held refused (held' name)) → IsCertLeft p IsMade (Some name) held held'
cert_left p IsMade name refused held mid held' made told = by (held name) made
  where
    by : (before : Option (List ℕ)) → mid name ≡ emptied before → IfSome before (λ _. (bytes : List ℕ) × (held' name ≡ Some bytes) × IsClaimsCert p IsMade bytes)
    by None made = tt
    by (Some before) made =
        let all = told (ap (lines_held false) made) in
        let bytes = told_bytes refused (held' name) (all.lines ++ Done ∷ []) all.are in
        let spelled = bytes.2 ∙ ap (λ lines. Some (lines ++ Done ∷ [])) all.begins.begins in (
          bytes.0,
          bytes.1,
          (all.claims, all.made, pruned p all.begins.lines all.state all.claims bytes.0 all.begins.keeps_up all.begins.alive spelled),
        )

answer_left : (r : Result Answer StepFault) (p : Problem) (name : List ℕ) (refused : Bool) (held mid held' : Contents) → mid name ≡ emptied (held name)
    → IfOk r (λ answer. IsToldWhole p (IsClaimed p answer) (lines_held false (mid name)) (lines_held refused (held' name)))
    → IfOk (as_stored r) (λ answer. IsCertLeft p (IsClaimed p answer) (Some name) held held')
answer_left (Ok answer) p name refused held mid held' made told = cert_left p (IsClaimed p answer) name refused held mid held' made told
answer_left (Err fault) p name refused held mid held' made told = tt

-- which counts moved behind a call that made the name empty
settled_cause : (r : Result Answer StepFault) (name : List ℕ) (store mid store' : StoreState) → IsQuiet store mid
    → IfLogFailed r (Rose (mid.writes name) (store'.writes name)) (store'.writes name ≡ mid.writes name) → IfLogFailed r ⊤ (IsQuiet mid store')
    → IfFailed (as_stored r) (HasFailed (name ∷ []) store.writes store'.writes) (IsQuiet store store')
settled_cause (Ok answer) name store mid store' quiet fault still = IsQuiet-joins store mid store' quiet still
settled_cause (Err step.LogFailed) name store mid store' quiet fault still =
    write_failed name store.writes store'.writes (subst (λ (counts : Counts). Rose (counts name) (store'.writes name)) quiet.1 fault)
settled_cause (Err step.NoMemory) name store mid store' quiet fault still = IsQuiet-joins store mid store' quiet still

-- what an answer leaves in the store in which its log stands
settled_in_store : (r : Result Answer StepFault) (p : Problem) (asked : Question) (name : List ℕ) (refused : Bool) (store mid store' : StoreState)
    → mid.held name ≡ emptied (store.held name) → OthersKept name store.held mid.held → IsQuiet store mid
    → IfOk r (IsRight p asked) → IfOk r (λ answer. IsToldWhole p (IsClaimed p answer) (lines_held false (mid.held name)) (lines_held refused (store'.held name)))
    → IfLogFailed r (Rose (mid.writes name) (store'.writes name)) (store'.writes name ≡ mid.writes name) → IfLogFailed r ⊤ (IsQuiet mid store')
    → OthersKept name mid.held store'.held → IsSettledWith p asked (Some name) (as_stored r) store store'
settled_in_store r p asked name refused store mid store' made others quiet right told fault still later = record {
  right = if_ok_as r (IsRight p asked) right;
  left = answer_left r p name refused store.held mid.held store'.held made told;
  kept = kept_but_one name store.held store'.held (λ other apart. later other apart ∙ others other apart);
  cause = settled_cause r name store mid store' quiet fault still;
}

-- an answer with its certificate, by the log's own words, where the log's store is what is left of the store that it borrowed
module _ {S : Type 0} (state : S → StoreState) where
  -- what the log tells is what its name holds, where nothing waits
  told_there : (r : Result Answer StepFault) (p : Problem) (a b : StoreLog S) (before : Told) → log_lines state a ≡ before → OnOk r (waiting_text b ≡ [])
      → IfOk r (λ answer. IsToldWhole p (IsClaimed p answer) (log_lines state a) (log_lines state b))
      → IfOk r (λ answer. IsToldWhole p (IsClaimed p answer) before (lines_held (is_refused b) ((state (log_store b).now).held (log_name b).now)))
  told_there (Ok answer) p a b before began none told =
      subst (λ before. IsToldWhole p (IsClaimed p answer) before (lines_held (is_refused b) ((state (log_store b).now).held (log_name b).now))) began
      (subst (IsToldWhole p (IsClaimed p answer) (log_lines state a)) (held_all (is_refused b) ((state (log_store b).now).held (log_name b).now) (waiting_text b) none) told)
  told_there (Err fault) p a b before began none told = tt

  settled_over : (r : Result Answer StepFault) (p : Problem) (asked : Question) (store : S) (a b : StoreLog S) (drops : StoreLog S → Bool)
      → log_lines state a ≡ lines_held false ((state (log_store a).now).held (log_name a).now) → OnOk r (waiting_text b ≡ [])
      → (state (log_store a).now).held (log_name a).now ≡ emptied ((state store).held (log_name a).now) → OthersKept (log_name a).now (state store).held (state (log_store a).now).held
      → IsQuiet (state store) (state (log_store a).now)
      → IfOk r (IsRight p asked) → IfOk r (λ answer. IsToldWhole p (IsClaimed p answer) (log_lines state a) (log_lines state b))
      → LogGoes drops (log_lines state) (log_faults state) (log_steady state) (log_quiet state) r a b
      → IsSettledWith p asked (Some (log_name a).now) (as_stored r) (state store) (state (log_store b).now)
  settled_over r p asked store a b drops began none made others quiet right told goes =
      let name = (log_name a).now in
      let named : log_name b ≡ log_name a = goes.comes.0 in
      settled_in_store r p asked name (is_refused b) (state store) (state (log_store a).now) (state (log_store b).now) made others quiet right
      (subst (λ (n : Bor (List ℕ)). IfOk r (λ answer. IsToldWhole p (IsClaimed p answer) (lines_held false ((state (log_store a).now).held name)) (lines_held (is_refused b) ((state (log_store b).now).held n.now)))) named
      (told_there r p a b (lines_held false ((state (log_store a).now).held name)) began none told))
      (subst (λ (n : Bor (List ℕ)). IfLogFailed r (Rose ((state (log_store a).now).writes name) ((state (log_store b).now).writes n.now)) ((state (log_store b).now).writes n.now ≡ (state (log_store a).now).writes name)) named goes.fault)
      goes.still goes.comes.2.others

  pub settled_over_as : (r : Result Answer StepFault) (out : Result Answer StoreFault) (p : Problem) (asked : Question) (name : List ℕ) (store mid left : S) (a b : StoreLog S) (drops : StoreLog S → Bool)
      → out ≡ as_stored r → (log_store b).now ≡ left → (log_store a).now ≡ mid → (log_name a).now ≡ name
      → log_lines state a ≡ lines_held false ((state mid).held name) → OnOk r (waiting_text b ≡ [])
      → (state mid).held name ≡ emptied ((state store).held name) → OthersKept name (state store).held (state mid).held → IsQuiet (state store) (state mid)
      → IfOk r (IsRight p asked) → IfOk r (λ answer. IsToldWhole p (IsClaimed p answer) (log_lines state a) (log_lines state b))
      → LogGoes drops (log_lines state) (log_faults state) (log_steady state) (log_quiet state) r a b
      → IsSettledWith p asked (Some name) out (state store) (state left)
  settled_over_as r out p asked name store mid left a b drops is_out is_left is_mid named began none made others quiet right told goes =
      subst (λ (out : Result Answer StoreFault). IsSettledWith p asked (Some name) out (state store) (state left)) (sym is_out)
      (subst (λ (s : S). IsSettledWith p asked (Some name) (as_stored r) (state store) (state s)) is_left
      (subst (λ (n : List ℕ). IsSettledWith p asked (Some n) (as_stored r) (state store) (state (log_store b).now)) named
      (settled_over r p asked store a b drops
      (subst (λ (n : List ℕ). log_lines state a ≡ lines_held false ((state (log_store a).now).held n)) (sym named) (subst (λ (s : S). log_lines state a ≡ lines_held false ((state s).held name)) (sym is_mid) began))
      none
      (subst (λ (n : List ℕ). (state (log_store a).now).held n ≡ emptied ((state store).held n)) (sym named) (subst (λ (s : S). (state s).held name ≡ emptied ((state store).held name)) (sym is_mid) made))
      (subst (λ (n : List ℕ). OthersKept n (state store).held (state (log_store a).now).held) (sym named) (subst (λ (s : S). OthersKept name (state store).held (state s).held) (sym is_mid) others))
      (subst (λ (s : S). IsQuiet (state store) (state s)) (sym is_mid) quiet)
      right told goes)))
