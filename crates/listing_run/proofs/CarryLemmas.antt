-- How a plan is carried out, by its parts.
use Rattle.std.proofs.Common.{◌≡◌, ℕ, Bool, true, false, List, [], ◌∷◌, ◌++◌, Option, None, Some, Result, Ok, Err, length, refl, sym, ap, subst, ◌∙◌, inl, inr, ⊎_elim, arith}
use Rattle.std.specs.Prelude.{◌==◌, ◌&&◌, if◌then◌else◌, flat_map, option_map, IfSome, IsTrue, is_some, Contains, IfOk}
use Rattle.std.specs.Option.{option_to_list}
use Rattle.std.proofs.lemmas.List.Elements.{All-nil, All-cons}
use Rattle.std.proofs.lemmas.Bool.{eqb-true}
use Rattle.outer_store.specs.declared.fault.StoreFault.{StoreFault}
use Rattle.outer_store.specs.declared.fault.StoreFault.TheVariants.{Failed, NoMemory}
use Rattle.outer_store.specs.Bytes.{GrownInPart, added}
use Rattle.outer_store.specs.Contents.{Contents}
use Rattle.outer_store.specs.Faults.{Counts, Rose, IfFailed}
use Rattle.outer_store.proofs.BytesLemmas.{added-added, GrownInPart-longer, GrownInPart-after}
use Rattle.rcc5_core.specs.declared.Rel.{Rel}
use Rattle.world_model.specs.Problem.{Problem}
use Rattle.world_model.specs.Listing.{is_before_end, IsListing}
use Rattle.world_model.specs.Node.{IsCut}
use Rattle.run_ends.specs.declared.Status.{Status}
use Rattle.run_ends.specs.declared.Status.TheVariants as status
use Rattle.run_ends.specs.Ends.{world_line, complete_line}
use Rattle.outer_store.specs.States.{StoreState, SinkState, IsQuiet, IsQuiet-joins}
use Rattle.run_ends.specs.Runs.{File, file_under, HasFailed, AreKeptBut, IsHeld, AreWritten, Answered, ending_of, IsWriteCause, IsByCause, IsPutPart, IsCarriedOut, LeavesPiece}
use Rattle.run_ends.proofs.EndLemmas.{none_written}
use Rattle.command_line.specs.Requests.{AreApart}
use Rattle.listing_run.specs.declared.plan.ListingPlan.{ListingPlan}
use Rattle.listing_run.specs.declared.plan.Stop.{Stop}
use Rattle.listing_run.specs.declared.plan.Stop.TheVariants as stop
use Rattle.listing_run.specs.Plans.{IsStopOf, stop_place}
use Rattle.listing_run.specs.Putting.{IsPutPartly}
use Rattle.listing_run.specs.Logged.{IsCertLeft, IsListedWith}
use Rattle.listing_run.proofs.LeftLemmas.{bytes_of, none_certified, cert_written, certified}
use Rattle.listing_run.proofs.StopLemmas.{endless_stop}
use Rattle.run_ends.specs.Token.Token.{token_text}
use Rattle.world_model.specs.Saturated.{count_of}
use Rattle.cert_rules.specs.Parts.Certs.{IsListingCert}
use Rattle.listing_run.specs.Output.{last_line, listing_text, listing_end, token_under, written_names}
use Rattle.listing_run.specs.Steps.{cut_of, status_at, IsCutEnded, IsEnded, plan_answers}
use Rattle.run_ends.proofs.OneName.{kept_but_one}
use Rattle.run_ends.proofs.WrittenLemmas.{kept_more_left, kept_twice, failed_left, failed_right, written_one, written_both}
use Rattle.listing_run.proofs.FileLemmas.{files_apart, token_since}

-- the status of a listing, by the count of its worlds
begun_status : (rel : Rel) (rels : List Rel) (count : ℕ) → status_at (rel ∷ rels) None count ≡ status.Done
begun_status rel rels count = by (length (rel ∷ rels) == 0) refl
  where
    by : (b : Bool) → (length (rel ∷ rels) == 0) ≡ b → (if b && (count == 0) then status.NoWorld else status.Done) ≡ status.Done
    by true e = absurd (omega (arith, eqb-true (length (rel ∷ rels)) 0 e))
    by false e = refl

no_world_status : (start : List Rel) (count : ℕ) → count ≡ 0 → status_at start None count ≡ listing_end start None []
no_world_status [] count zero = rw zero refl
no_world_status (rel ∷ rels) count zero = begun_status rel rels count

some_world_status : (start : List Rel) (world : List Rel) (worlds : List (List Rel)) (count : ℕ) → (count ≡ 0 → ⊥) → status_at start None count ≡ listing_end start None (world ∷ worlds)
some_world_status [] world worlds count some = by (count == 0) refl
  where
    by : (b : Bool) → (count == 0) ≡ b → (if b then status.NoWorld else status.Done) ≡ status.Done
    by true zero = absurd (some (eqb-true count 0 zero))
    by false e = refl
some_world_status (rel ∷ rels) world worlds count some = begun_status rel rels count

status_counted : (start : List Rel) (cut : Option (List Rel)) (worlds : List (List Rel)) (count : ℕ) → count ≡ count_of worlds → status_at start cut count ≡ listing_end start cut worlds
status_counted start (Some cut) worlds count e = refl
status_counted start None [] count e = no_world_status start count e
status_counted start None (world ∷ worlds) count e = some_world_status start world worlds count (λ zero. omega (arith, e, zero))

-- a cause behind a listing in which no call failed
cause_from : (cert token : Option (List ℕ)) (store mid store' : StoreState) (old between new : SinkState) → IsQuiet store mid → between.faults ≡ old.faults
    → IsWriteCause (option_to_list token) mid store' between new → IsWriteCause (written_names cert token) store store' old new
cause_from cert token store mid store' old between new quiet same cause = ⊎_elim
    (λ put. inl (subst (λ (n : ℕ). Rose n new.faults) same put.0, IsQuiet-joins store mid store' quiet put.1))
    (λ write. inr (
      failed_right (option_to_list cert) (option_to_list token) store.writes store'.writes
          (subst (λ (counts : Counts). HasFailed (option_to_list token) counts store'.writes) quiet.1 write.0),
      write.1 ∙ same,
    ))
    cause

by_cause_from : (r : Result Status StoreFault) (cert token : Option (List ℕ)) (store mid store' : StoreState) (old between new : SinkState) → IsQuiet store mid → between.faults ≡ old.faults
    → AreKeptBut (option_to_list cert) store.held mid.held → IsByCause r (option_to_list token) mid store' between new → IsByCause r (written_names cert token) store store' old new
by_cause_from (Ok s) cert token store mid store' old between new quiet same kept by_cause = record {
  cause = (IsQuiet-joins store mid store' quiet by_cause.cause.0, by_cause.cause.1 ∙ same);
  kept = kept_twice (option_to_list cert) (option_to_list token) store.held mid.held store'.held kept by_cause.kept;
}
by_cause_from (Err Failed) cert token store mid store' old between new quiet same kept by_cause = record {
  cause = cause_from cert token store mid store' old between new quiet same by_cause.cause;
  kept = kept_twice (option_to_list cert) (option_to_list token) store.held mid.held store'.held kept by_cause.kept;
}
by_cause_from (Err NoMemory) cert token store mid store' old between new quiet same kept by_cause = record {
  cause = (IsQuiet-joins store mid store' quiet by_cause.cause.0, by_cause.cause.1 ∙ same);
  kept = kept_twice (option_to_list cert) (option_to_list token) store.held mid.held store'.held kept by_cause.kept;
}

-- each status of a listing answers
listed_ending : (start : List Rel) (cut : Option (List Rel)) (worlds : List (List Rel)) → ending_of (listing_end start cut worlds) ≡ Answered
listed_ending start (Some cut) worlds = refl
listed_ending [] None [] = refl
listed_ending [] None (world ∷ worlds) = refl
listed_ending (rel ∷ rels) None worlds = refl

-- where nothing ends a plan, its listing stops at its cut
pub stop_cut : (plan : ListingPlan) (stop : Stop) → plan.end ≡ None → IsStopOf plan stop → IsCut plan.problem plan.start plan.nodes plan.worlds (cut_of stop)
stop_cut plan (stop.Cut node) endless is = is.0
stop_cut plan (stop.End last) endless is = λ m from spent. is.0 m from (ap (is_before_end m) endless) spent

place_cut : (plan : ListingPlan) (stop : Stop) → plan.end ≡ None → IsStopOf plan stop → stop_place stop ≡ cut_of stop
place_cut plan (stop.Cut node) endless is = refl
place_cut plan (stop.End node) endless is = endless_stop plan.problem plan.start plan.end node endless is.1

-- a first part of the text of a listing is one of its answer
partly_text : (plan : ListingPlan) (cert token : Option (List ℕ)) (store : StoreState) (old new : SinkState) (cut : Option (List Rel)) (worlds : List (List Rel)) → IsCut plan.problem plan.start plan.nodes plan.worlds cut
    → IsListing plan.problem plan.start cut worlds → GrownInPart old.bytes new.bytes (listing_text cut worlds) → IsPutPart (plan_answers plan cert token) store old new
partly_text plan cert token store old new cut worlds cut_is exactly part = record {
  text = listing_text cut worlds;
  of_answer = inl (
    listing_end plan.start cut worlds,
    file_under cert None ++ token_under plan.problem token cut store.held,
    record {
      cut = cut;
      cut_is = cut_is;
      worlds = worlds;
      exactly = exactly;
      put = refl;
      ended = refl;
      bytes = None;
      certified = none_certified cert store.held (IsListingCert plan.problem plan.start cut worlds);
      written = refl;
    },
  );
  part = part;
}

-- and so is a first part of its worlds' lines
partly : (plan : ListingPlan) (cert token : Option (List ℕ)) (store : StoreState) (old new : SinkState) → plan.end ≡ None → IsPutPartly plan old.bytes new.bytes → IsPutPart (plan_answers plan cert token) store old new
partly plan cert token store old new endless part =
    let cut = cut_of part.stop in
    partly_text plan cert token store old new cut part.worlds (stop_cut plan part.stop endless part.stop_is)
    (subst (λ at. IsListing plan.problem plan.start at part.worlds) (place_cut plan part.stop endless part.stop_is) part.exactly)
    (GrownInPart-longer old.bytes new.bytes (flat_map world_line part.worlds) (last_line cut (count_of part.worlds)) part.part)

-- a listing that stops at a refused put or write, or for want of memory
stopped_by : (fault : StoreFault) (plan : ListingPlan) (cert token : Option (List ℕ)) (store store' : StoreState) (old new : SinkState) → plan.end ≡ None → IsListedWith plan cert (Err fault) store store' old new
    → IsCarriedOut (plan_answers plan cert token) (Err fault) (written_names cert token) store store' old new
stopped_by Failed plan cert token store store' old new endless listed = record {
  done = tt;
  refused = partly plan cert token store old new endless listed.err;
  by_cause = record {
    cause = ⊎_elim
        (λ put. inl put)
        (λ write. inr (failed_left (option_to_list cert) (option_to_list token) store.writes store'.writes write.0, write.1))
        listed.cause;
    kept = kept_more_left (option_to_list cert) (option_to_list token) store.held store'.held listed.kept;
  };
}
stopped_by NoMemory plan cert token store store' old new endless listed = record {
  done = tt;
  refused = partly plan cert token store old new endless listed.err;
  by_cause = record {
    cause = listed.cause;
    kept = kept_more_left (option_to_list cert) (option_to_list token) store.held store'.held listed.kept;
  };
}

pub stopped : (r : Result Status StoreFault) (fault : StoreFault) (plan : ListingPlan) (cert token : Option (List ℕ)) (store store' : StoreState) (old new : SinkState) → r ≡ Err fault → plan.end ≡ None
    → IsListedWith plan cert (Err fault) store store' old new → IsCarriedOut (plan_answers plan cert token) r (written_names cert token) store store' old new
stopped r fault plan cert token store store' old new e endless listed =
    subst (λ x. IsCarriedOut (plan_answers plan cert token) x (written_names cert token) store store' old new) (sym e) (stopped_by fault plan cert token store store' old new endless listed)

-- a listing that is put to its stop and written, and then ended
pub carried : (r : Result Status StoreFault) (plan : ListingPlan) (cert token : Option (List ℕ)) (stop : Stop) (count : ℕ) (store mid store' : StoreState) (old between new : SinkState)
    → plan.end ≡ None → AreApart cert token → IsListedWith plan cert (Ok (record { count = count; stop = stop })) store mid old between → IsEnded r plan (cut_of stop) count token mid store' between new
    → IsCarriedOut (plan_answers plan cert token) r (written_names cert token) store store' old new
carried (Ok s) plan cert token stop count store mid store' old between new endless two with_cert ended =
    let p = plan.problem in
    let cut = cut_of stop in
    let listed = with_cert.ok in
    let at_cut = place_cut plan stop endless listed.stop_is in
    let exactly : IsListing p plan.start cut listed.worlds = subst (λ at. IsListing p plan.start at listed.worlds) at_cut listed.exactly in
    let left : IsCertLeft p plan.start cut cert store.held mid.held = subst (λ at. IsCertLeft p plan.start at cert store.held mid.held) at_cut with_cert.left in
    let is : s ≡ listing_end plan.start cut listed.worlds = ended.status ∙ status_counted plan.start cut listed.worlds count listed.counted in
    let token_written : AreWritten (token_under p token cut store.held) mid.held store'.held =
    subst (λ (files : List File). AreWritten files mid.held store'.held) (token_since p cert token cut store.held mid.held two with_cert.kept) ended.written in
    record {
      done = record {
        text = listing_text cut listed.worlds;
        files = file_under cert (bytes_of cert mid.held) ++ token_under p token cut store.held;
        asked = record {
          cut = cut;
          cut_is = stop_cut plan stop endless listed.stop_is;
          worlds = listed.worlds;
          exactly = exactly;
          put = refl;
          ended = is;
          bytes = bytes_of cert mid.held;
          certified = certified p plan.start cut listed.worlds cert store.held mid.held exactly left;
          written = refl;
        };
        answered = ap ending_of is ∙ listed_ending plan.start cut listed.worlds;
        put = ended.put ∙ ap (λ told. added told (last_line cut count)) listed.put
            ∙ added-added old.bytes (flat_map world_line listed.worlds) (last_line cut count)
            ∙ ap (λ (n : ℕ). added old.bytes (flat_map world_line listed.worlds ++ last_line cut n)) listed.counted;
        written = written_both (file_under cert (bytes_of cert mid.held)) (token_under p token cut store.held) store.held mid.held store'.held
            (files_apart p cert token (bytes_of cert mid.held) cut store.held two)
            (cert_written p plan.start cut cert store.held mid.held left with_cert.kept) token_written;
      };
      refused = tt;
      by_cause = by_cause_from (Ok s) cert token store mid store' old between new with_cert.cause.0 with_cert.cause.1 with_cert.kept ended.by_cause;
    }
carried (Err fault) plan cert token stop count store mid store' old between new endless two with_cert ended =
    let cut = cut_of stop in
    let listed = with_cert.ok in
    record {
      done = tt;
      refused = partly_text plan cert token store old new cut listed.worlds (stop_cut plan stop endless listed.stop_is)
          (subst (λ at. IsListing plan.problem plan.start at listed.worlds) (place_cut plan stop endless listed.stop_is) listed.exactly)
          (GrownInPart-after old.bytes between.bytes new.bytes (flat_map world_line listed.worlds) (last_line cut (count_of listed.worlds)) listed.put
          (subst (λ (n : ℕ). GrownInPart between.bytes new.bytes (last_line cut n)) listed.counted ended.refused));
      by_cause = by_cause_from (Err fault) cert token store mid store' old between new with_cert.cause.0 with_cert.cause.1 with_cert.kept ended.by_cause;
    }

-- a whole listing is ended by its last line
pub ended_whole : (r : Result Status StoreFault) (plan : ListingPlan) (count : ℕ) (token : Option (List ℕ)) (store : StoreState) (old new : SinkState) → IfOk r (λ s. s ≡ status_at plan.start None count)
    → LeavesPiece r (complete_line count) old new → IsEnded r plan None count token store store old new
ended_whole r plan count token store old new status put = record {
  status = status;
  put = put.ok;
  written = if_any r (subst (λ (files : List File). AreWritten files store.held store.held) (none_under token) (none_written store.held store.held refl));
  refused = put.err;
  by_cause = record { cause = by r put.cause; kept = λ name apart. refl };
}
  where
    none_under : (token : Option (List ℕ)) → [] ≡ token_under plan.problem token None store.held
    none_under None = refl
    none_under (Some name) = refl

    if_any : {T : Type 0} (r : Result T StoreFault) {fact : Type 0} → fact → IfOk r (λ _. fact)
    if_any (Ok x) h = h
    if_any (Err e) h = tt

    by : (r : Result Status StoreFault) → IfFailed r (Rose old.faults new.faults) (new.faults ≡ old.faults)
        → IfFailed r (IsWriteCause (option_to_list token) store store old new) (IsQuiet store store × (new.faults ≡ old.faults))
    by (Ok s) cause = ((refl, refl), cause)
    by (Err Failed) cause = inl (cause, (refl, refl))
    by (Err NoMemory) cause = ((refl, refl), cause)

-- and one that is cut, by the token of the cut besides
pub ended_cut : (r : Result Status StoreFault) (plan : ListingPlan) (cut : List Rel) (count : ℕ) (name : List ℕ) (store store' : StoreState) (old new : SinkState)
    → IsCutEnded r plan.problem cut count name store store' old new → IsEnded r plan (Some cut) count (Some name) store store' old new
ended_cut r plan cut count name store store' old new ended = record {
  status = ended.status;
  put = ended.put;
  written = by r ended.written;
  refused = ended.refused;
  by_cause = record { cause = ended.cause; kept = kept_but_one name store.held store'.held ended.others };
}
  where
    tells : (told : Option (List ℕ)) → IfSome told (λ _. IsTrue (is_some (option_map (λ _. token_text plan.problem cut) told)))
    tells None = tt
    tells (Some bytes) = refl

    by : (r : Result Status StoreFault) → IfOk r (λ _. store'.held name ≡ option_map (λ _. token_text plan.problem cut) (store.held name))
        → IfOk r (λ _. AreWritten (token_under plan.problem (Some name) (Some cut) store.held) store.held store'.held)
    by (Ok s) written = written_one name (option_map (λ _. token_text plan.problem cut) (store.held name)) store.held store'.held written (tells (store.held name)) (kept_but_one name store.held store'.held ended.others)
    by (Err e) written = tt

pub ruleset end_rules = (ended_whole, ended_cut)
