-- A listing whose certificate a store holds.
use Rattle.std.proofs.Common.{◌≡◌, ℕ, ◌≤◌, Bool, false, length, List, [], ◌∷◌, ◌++◌, Option, None, Some, IfSome, IfOk, OnOk, OnErr, Result, Ok, Err, refl, sym, ap, subst, ◌∙◌, inl, inr, ⊎_elim}
use Rattle.std.specs.Prelude.{◌⊎◌}
use Rattle.std.specs.Result.{IsErrAnd}
use Rattle.std.proofs.lemmas.Bool.{true≢false}
use Rattle.outer_store.specs.Contents.{Contents, OthersKept, emptied}
use Rattle.outer_store.specs.Faults.{Counts, Rose, IfFailed}
use Rattle.outer_store.specs.declared.fault.StoreFault.{StoreFault}
use Rattle.outer_store.specs.declared.fault.StoreFault.TheVariants.{Failed, NoMemory}
use Rattle.rcc5_core.specs.declared.Rel.{Rel}
use Rattle.lits_core.specs.Derivation.{State}
use Rattle.world_model.specs.Problem.{Problem, pair_count}
use Rattle.constraint_set.specs.Facts.{IsBuilt}
use Rattle.world_model.specs.Listing.{IsListing}
use Rattle.world_model.proofs.OrderListings.{one_listing_law}
use Rattle.cert_text.specs.declared.line.CertLine.{CertLine}
use Rattle.cert_text.specs.declared.line.CertLine.TheVariants.{End}
use Rattle.cert_text.specs.Logs.{Told, lines_in, lines_held}
use Rattle.std.specs.Borrow.{Bor}
use Rattle.cert_text.specs.declared.store_log.StoreLog.{StoreLog}
use Rattle.cert_text.specs.StoreLogs.{log_store, log_name, is_refused, waiting_text, log_lines, log_faults, log_steady, log_quiet}
use Rattle.cert_reader.specs.Reading.{Reading}
use Rattle.cert_rules.specs.Listings.{Going, listing_tree, start}
use Rattle.cert_rules.specs.ShownNodes.{AllBranchesAlive}
use Rattle.cert_rules.specs.Writing.{KeepsUp, BeginsAndKeepsUp}
use Rattle.cert_rules.specs.Files.{Accepts, Listing}
use Rattle.cert_rules.proofs.Writing.{alive_append}
use Rattle.cert_rules.specs.Parts.Certs.{cert_answer}
use Rattle.outer_store.specs.States.{StoreState, SinkState, IsQuiet, OnlyWritten, IsQuiet-joins}
use Rattle.run_ends.specs.Runs.{IsWriteCause}
use Rattle.run_ends.proofs.OneName.{kept_but_one, write_failed}
use Rattle.run_ends.proofs.WrittenLemmas.{others_twice}
use Rattle.listing_run.specs.declared.plan.Listed.{Listed}
use Rattle.listing_run.specs.declared.plan.ListingPlan.{ListingPlan}
use Rattle.cert_rules.specs.Parts.Certs.{IsListingCert}
use Rattle.listing_run.specs.Plans.{IsPlan, stop_place}
use Rattle.listing_run.specs.Putting.{IsPutToStop, IsPutPartly}
use Rattle.world_search.specs.Told.{IsToldWhole}
use Rattle.listing_run.specs.Logged.{IsListedIn, IsCertLeft, IsListedWith}
use Rattle.cert_check.proofs.WrittenLemmas.{written_is_read, written_is_accepted_law}
use Rattle.cert_text.proofs.StoreLemmas.{told_bytes, held_all}

-- a certificate's name that can't be made empty
create_refused_by : (T : Type 0) (e : StoreFault) (plan : ListingPlan) (name : List ℕ) (store store' : StoreState) (sink : SinkState)
    → IfFailed {T = T} (Err e) (Rose (store.writes name) (store'.writes name)) (IsQuiet store store')
    → OthersKept name store.held store'.held → IsPutPartly plan sink.bytes sink.bytes → IsListedWith plan (Some name) (Err e) store store' sink sink
create_refused_by T Failed plan name store store' sink cause others part = record {
  ok = tt;
  err = part;
  left = tt;
  kept = kept_but_one name store.held store'.held others;
  cause = inr (write_failed name store.writes store'.writes cause, refl);
}
create_refused_by T NoMemory plan name store store' sink cause others part = record {
  ok = tt;
  err = part;
  left = tt;
  kept = kept_but_one name store.held store'.held others;
  cause = (cause, refl);
}

pub create_refused : (T : Type 0) (e : StoreFault) (r : Result Listed StoreFault) (plan : ListingPlan) (name : List ℕ) (store store' : StoreState) (sink : SinkState) → IsErrAnd r (λ f. f ≡ e)
    → IfFailed {T = T} (Err e) (Rose (store.writes name) (store'.writes name)) (IsQuiet store store')
    → OthersKept name store.held store'.held → IsPutPartly plan sink.bytes sink.bytes → IsListedWith plan (Some name) r store store' sink sink
create_refused T e (Ok x) plan name store store' sink is cause others part = absurd is
create_refused T e (Err f) plan name store store' sink is cause others part =
    subst (λ f. IsListedWith plan (Some name) (Err f) store store' sink sink) (sym is) (create_refused_by T e plan name store store' sink cause others part)

-- each branch of what keeps up stands at an alive node, also with an end behind
alive_to_end : (p : Problem) (from : List Rel) (state : State) (at to : Option (List Rel)) (lines : List CertLine) → (k : KeepsUp p from lines [] state at) →
    AllBranchesAlive (listing_tree p from) (Going 1 (start p)) (lines ++ End to ∷ [])
alive_to_end p from state at to lines k =
    alive_append (listing_tree p from) (Going 1 (start p)) lines (End to ∷ []) k.alive
    (subst (λ status. AllBranchesAlive (listing_tree p from) status (End to ∷ [])) (sym k.reached) (λ branch. absurd (true≢false (sym branch)), tt))

-- what keeps up with a listing, with an end behind it, is its certificate, by bytes that spell it
cert_of : (p : Problem) (from : List Rel) (told : List CertLine) (state : State) (to : Option (List Rel)) (worlds : List (List Rel)) (bytes : List ℕ) → IsBuilt p → length from ≤ pair_count p
    → BeginsAndKeepsUp p from [] state to told → lines_in bytes ≡ Some (told ++ End to ∷ []) → IsListing p from to worlds → IsListingCert p from to worlds bytes
cert_of p from told state to worlds bytes valid within keeps spelled exactly small =
    let accepted = written_is_accepted_law.accepted p from told state to bytes valid within keeps spelled small in
    record {
      accepted = subst (λ (ws : List (List Rel)). cert_answer p bytes ≡ Accepts (Listing from to ws)) (one_listing_law.worlds p from to accepted.0 worlds accepted.1 exactly) accepted.2;
      lines = keeps.lines ++ End to ∷ [];
      read = ap (λ (read : Reading). read.lines) (written_is_read p from told state to bytes keeps spelled small) ∙ ap (λ told. told ++ End to ∷ []) keeps.begins;
      alive = alive_to_end p from state to to keeps.lines keeps.keeps_up;
    }

-- a name that was made empty and then holds a certificate's lines
cert_left : (plan : ListingPlan) (to : Option (List Rel)) (name : List ℕ) (refused : Bool) (held mid held' : Contents) → IsBuilt plan.problem → IsPlan plan
    → mid name ≡ emptied (held name) → IsToldWhole plan.problem plan.start (lines_held false (mid name)) to (lines_held refused (held' name))
    → IsCertLeft plan.problem plan.start to (Some name) held held'
cert_left plan to name refused held mid held' valid within made told = by (held name) made
  where
    p : Problem
    p = plan.problem

    by : (before : Option (List ℕ)) → mid name ≡ emptied before
        → IfSome before (λ _. (bytes : List ℕ) × (held' name ≡ Some bytes) × ((worlds : List (List Rel)) → IsListing p plan.start to worlds → IsListingCert p plan.start to worlds bytes))
    by None made = tt
    by (Some before) made =
        let whole = told (ap (lines_held false) made) in
        let bytes = told_bytes refused (held' name) (whole.0 ++ End to ∷ []) whole.2 in (
          bytes.0,
          bytes.1,
          λ worlds exactly. cert_of p plan.start whole.0 whole.1 to worlds bytes.0 valid within.start whole.3 bytes.2 exactly,
        )

if_ok_left : (r : Result Listed StoreFault) (plan : ListingPlan) (name : List ℕ) (refused : Bool) (held mid held' : Contents) → IsBuilt plan.problem → IsPlan plan
    → mid name ≡ emptied (held name) → IfOk r (λ listed. IsToldWhole plan.problem plan.start (lines_held false (mid name)) (stop_place listed.stop) (lines_held refused (held' name)))
    → IfOk r (λ listed. IsCertLeft plan.problem plan.start (stop_place listed.stop) (Some name) held held')
if_ok_left (Ok listed) plan name refused held mid held' valid within made told = cert_left plan (stop_place listed.stop) name refused held mid held' valid within made told
if_ok_left (Err e) plan name refused held mid held' valid within made told = tt

-- the cause of a refusal behind a call that made the name empty
store_cause : (r : Result Listed StoreFault) (name : List ℕ) (store mid store' : StoreState) (sink sink' : SinkState) → IsQuiet store mid
    → IfFailed r ((Rose sink.faults sink'.faults × IsQuiet mid store') ⊎ (Rose (mid.writes name) (store'.writes name) × (sink'.faults ≡ sink.faults)))
    ((sink'.faults ≡ sink.faults) × (store'.writes name ≡ mid.writes name) × IsQuiet mid store')
    → IfFailed r (IsWriteCause (name ∷ []) store store' sink sink') (IsQuiet store store' × (sink'.faults ≡ sink.faults))
store_cause (Ok listed) name store mid store' sink sink' quiet cause = (IsQuiet-joins store mid store' quiet cause.2, cause.0)
store_cause (Err Failed) name store mid store' sink sink' quiet cause = ⊎_elim
    (λ put. inl (put.0, IsQuiet-joins store mid store' quiet put.1))
    (λ write. inr (write_failed name store.writes store'.writes (subst (λ (counts : Counts). Rose (counts name) (store'.writes name)) quiet.1 write.0), write.1))
    cause
store_cause (Err NoMemory) name store mid store' sink sink' quiet cause = (IsQuiet-joins store mid store' quiet cause.2, cause.0)

-- what a listing leaves in the store in which its log stands
pub listed_in_store : (r : Result Listed StoreFault) (plan : ListingPlan) (name : List ℕ) (refused : Bool) (store mid store' : StoreState) (sink sink' : SinkState)
    → IsBuilt plan.problem → IsPlan plan → mid.held name ≡ emptied (store.held name) → OthersKept name store.held mid.held → IsQuiet store mid
    → IfOk r (λ listed. IsPutToStop plan sink.bytes sink'.bytes listed.stop listed.count) → OnErr r (IsPutPartly plan sink.bytes sink'.bytes)
    → IfOk r (λ listed. IsToldWhole plan.problem plan.start (lines_held false (mid.held name)) (stop_place listed.stop) (lines_held refused (store'.held name)))
    → IfFailed r ((Rose sink.faults sink'.faults × IsQuiet mid store') ⊎ (Rose (mid.writes name) (store'.writes name) × (sink'.faults ≡ sink.faults)))
    ((sink'.faults ≡ sink.faults) × (store'.writes name ≡ mid.writes name) × IsQuiet mid store')
    → OnlyWritten name mid store'
    → IsListedWith plan (Some name) r store store' sink sink'
listed_in_store r plan name refused store mid store' sink sink' valid within made others quiet ok err told cause comes = record {
  ok = ok;
  err = err;
  left = if_ok_left r plan name refused store.held mid.held store'.held valid within made told;
  kept = kept_but_one name store.held store'.held (others_twice name store.held mid.held store'.held others comes.others);
  cause = store_cause r name store mid store' sink sink' quiet cause;
}

none_left : (r : Result Listed StoreFault) (plan : ListingPlan) (held : Contents) → IfOk r (λ listed. IsCertLeft plan.problem plan.start (stop_place listed.stop) None held held)
none_left (Ok listed) plan held = tt
none_left (Err e) plan held = tt

-- a listing with its certificate, by the log's own words
module _ {S : Type 0} (state : S → StoreState) where
  -- what the log tells is what its name holds, where nothing waits
  told_there : (r : Result Listed StoreFault) (plan : ListingPlan) (a b : StoreLog S) (before : Told) → log_lines state a ≡ before → OnOk r (waiting_text b ≡ [])
      → IfOk r (λ l. IsToldWhole plan.problem plan.start (log_lines state a) (stop_place l.stop) (log_lines state b))
      → IfOk r (λ l. IsToldWhole plan.problem plan.start before (stop_place l.stop) (lines_held (is_refused b) ((state (log_store b).now).held (log_name b).now)))
  told_there (Ok l) plan a b before began none told =
      subst (λ before. IsToldWhole plan.problem plan.start before (stop_place l.stop) (lines_held (is_refused b) ((state (log_store b).now).held (log_name b).now))) began
      (subst (IsToldWhole plan.problem plan.start (log_lines state a) (stop_place l.stop)) (held_all (is_refused b) ((state (log_store b).now).held (log_name b).now) (waiting_text b) none) told)
  told_there (Err e) plan a b before began none told = tt

  listed_over : (r : Result Listed StoreFault) (plan : ListingPlan) (store : S) (a b : StoreLog S) (sink sink' : SinkState) → IsBuilt plan.problem → IsPlan plan
      → log_lines state a ≡ lines_held false ((state (log_store a).now).held (log_name a).now) → OnOk r (waiting_text b ≡ [])
      → (state (log_store a).now).held (log_name a).now ≡ emptied ((state store).held (log_name a).now) → OthersKept (log_name a).now (state store).held (state (log_store a).now).held
      → IsQuiet (state store) (state (log_store a).now)
      → IsListedIn (log_lines state) (log_faults state) (log_steady state) (log_quiet state) (IsToldWhole plan.problem plan.start (log_lines state a)) plan r sink sink' a b
      → IsListedWith plan (Some (log_name a).now) r (state store) (state (log_store b).now) sink sink'
  listed_over r plan store a b sink sink' built within began none made others quiet listed =
      let name = (log_name a).now in
      let named : log_name b ≡ log_name a = listed.comes.0 in
      listed_in_store r plan name (is_refused b) (state store) (state (log_store a).now) (state (log_store b).now) sink sink' built within made others quiet listed.ok listed.err
      (subst (λ (n : Bor (List ℕ)). IfOk r (λ l. IsToldWhole plan.problem plan.start (lines_held false ((state (log_store a).now).held name)) (stop_place l.stop) (lines_held (is_refused b) ((state (log_store b).now).held n.now)))) named
      (told_there r plan a b (lines_held false ((state (log_store a).now).held name)) began none listed.told))
      (subst (λ (n : Bor (List ℕ)). IfFailed r ((Rose sink.faults sink'.faults × log_quiet state a b) ⊎ (Rose ((state (log_store a).now).writes name) ((state (log_store b).now).writes n.now) × (sink'.faults ≡ sink.faults)))
      ((sink'.faults ≡ sink.faults) × ((state (log_store b).now).writes n.now ≡ (state (log_store a).now).writes name) × log_quiet state a b)) named listed.cause)
      listed.comes.2

  -- where the log's store is what is left of the store that it borrowed
  pub listed_over_as : (r : Result Listed StoreFault) (plan : ListingPlan) (name : List ℕ) (store mid left : S) (a b : StoreLog S) (sink sink' : SinkState) → IsBuilt plan.problem → IsPlan plan
      → (log_store b).now ≡ left → (log_store a).now ≡ mid → (log_name a).now ≡ name
      → log_lines state a ≡ lines_held false ((state mid).held name) → OnOk r (waiting_text b ≡ [])
      → (state mid).held name ≡ emptied ((state store).held name) → OthersKept name (state store).held (state mid).held → IsQuiet (state store) (state mid)
      → IsListedIn (log_lines state) (log_faults state) (log_steady state) (log_quiet state) (IsToldWhole plan.problem plan.start (log_lines state a)) plan r sink sink' a b
      → IsListedWith plan (Some name) r (state store) (state left) sink sink'
  listed_over_as r plan name store mid left a b sink sink' built within is_left is_mid named began none made others quiet listed =
      subst (λ (s : S). IsListedWith plan (Some name) r (state store) (state s) sink sink') is_left
      (subst (λ (n : List ℕ). IsListedWith plan (Some n) r (state store) (state (log_store b).now) sink sink') named
      (listed_over r plan store a b sink sink' built within
      (subst (λ (n : List ℕ). log_lines state a ≡ lines_held false ((state (log_store a).now).held n)) (sym named) (subst (λ (s : S). log_lines state a ≡ lines_held false ((state s).held name)) (sym is_mid) began))
      none
      (subst (λ (n : List ℕ). (state (log_store a).now).held n ≡ emptied ((state store).held n)) (sym named) (subst (λ (s : S). (state s).held name ≡ emptied ((state store).held name)) (sym is_mid) made))
      (subst (λ (n : List ℕ). OthersKept n (state store).held (state (log_store a).now).held) (sym named) (subst (λ (s : S). OthersKept name (state store).held (state s).held) (sym is_mid) others))
      (subst (λ (s : S). IsQuiet (state store) (state s)) (sym is_mid) quiet)
      listed))
