-- How a part is put, by its parts.
use Rattle.std.proofs.Common.{◌≡◌, ℕ, List, [], ◌∷◌, ◌++◌, Option, None, Some, Result, Ok, Err, refl, sym, ap, subst, ◌∙◌, inl, ⊎_elim}
use Rattle.std.specs.Prelude.{flat_map, IfOk}
use Rattle.outer_store.specs.declared.fault.StoreFault.{StoreFault}
use Rattle.outer_store.specs.declared.fault.StoreFault.TheVariants.{Failed, NoMemory}
use Rattle.outer_store.specs.Bytes.{GrownInPart, added}
use Rattle.outer_store.specs.Faults.{Rose, IfFailed}
use Rattle.outer_store.specs.States.{StoreState, SinkState, IsQuiet}
use Rattle.outer_store.proofs.BytesLemmas.{added-added, GrownInPart-longer, GrownInPart-after}
use Rattle.rcc5_core.specs.declared.Rel.{Rel}
use Rattle.world_model.specs.Problem.{Problem}
use Rattle.world_model.specs.Listing.{IsListing}
use Rattle.world_model.specs.Node.{IsSpent}
use Rattle.world_model.specs.Saturated.{count_of}
use Rattle.world_search.specs.Searching.{IsNodeAtEnd}
use Rattle.cert_rules.specs.Parts.Certs.{IsListingCert}
use Rattle.run_ends.specs.declared.Status.{Status}
use Rattle.run_ends.specs.declared.Status.TheVariants as status
use Rattle.run_ends.specs.Ends.{world_line}
use Rattle.run_ends.specs.Runs.{ending_of, IsWriteCause, IsPutPart, IsCarriedOut, LeavesPiece}
use Rattle.listing_run.specs.declared.plan.Listed.{Listed}
use Rattle.listing_run.specs.declared.plan.ListingPlan.{ListingPlan}
use Rattle.listing_run.specs.declared.plan.Stop.{Stop}
use Rattle.listing_run.specs.declared.plan.Stop.TheVariants as stop
use Rattle.listing_run.specs.Plans.{IsStopOf, stop_place}
use Rattle.listing_run.specs.Logged.{IsListedWith}
use Rattle.listing_run.proofs.LeftLemmas.{none_certified, cert_written, certified}
use Rattle.listing_run.proofs.StopLemmas.{listed_below}
use Rattle.listing_run.specs.Part.Answering.{part_line, part_text}
use Rattle.listing_run.specs.Part.Steps.{IsUncut, plan_answers}

-- no budget is used up that has no limit
unspent : (p : Problem) (from : List Rel) (nodes worlds : Option ℕ) (m : List Rel) → nodes ≡ None → worlds ≡ None → IsSpent p from nodes worlds m → ⊥
unspent p from None None m no_nodes no_worlds spent = ⊎_elim (λ nodes. nodes.reached) (λ worlds. worlds.reached) spent
unspent p from None (Some limit) m no_nodes no_worlds spent = cc
unspent p from (Some limit) worlds m no_nodes no_worlds spent = cc

-- so the listing of an uncut plan stops at its end
at_end : (plan : ListingPlan) (place : Stop) → IsUncut plan → IsStopOf plan place → IsNodeAtEnd plan.problem plan.start plan.end (stop_place place)
at_end plan (stop.Cut node) uncut is = absurd (unspent plan.problem plan.start plan.nodes plan.worlds node uncut.nodes uncut.worlds is.0.spent)
at_end plan (stop.End _) uncut is = is.1

-- what is listed up to the stop is listed up to the end
all_listed : (plan : ListingPlan) (place : Stop) (worlds : List (List Rel)) → IsUncut plan → IsStopOf plan place → IsListing plan.problem plan.start (stop_place place) worlds
    → IsListing plan.problem plan.start plan.end worlds
all_listed plan place worlds uncut is exactly = listed_below plan.problem plan.start plan.end (stop_place place) worlds (at_end plan place uncut is) exactly

-- a first part of the text of a plan is one of its answer
partly : (plan : ListingPlan) (cert : List ℕ) (store : StoreState) (old new : SinkState) (place : Stop) (worlds : List (List Rel)) → IsUncut plan → IsStopOf plan place
    → IsListing plan.problem plan.start (stop_place place) worlds → GrownInPart old.bytes new.bytes (part_text worlds) → IsPutPart (plan_answers plan cert) store old new
partly plan cert store old new place worlds uncut is exactly part = record {
  text = part_text worlds;
  of_answer = inl (
    status.Done,
    record { name = cert; bytes = None } ∷ [],
    record {
      worlds = worlds;
      exactly = all_listed plan place worlds uncut is exactly;
      put = refl;
      ended = refl;
      node = stop_place place;
      node_is = at_end plan place uncut is;
      bytes = None;
      certified = none_certified (Some cert) store.held (IsListingCert plan.problem plan.start (stop_place place) worlds);
      written = refl;
    },
  );
  part = part;
}

-- a cause is one whatever was to be answered
of_status : (fault : StoreFault) (failed other : Type 0) → IfFailed {T = Listed} (Err fault) failed other → IfFailed {T = Status} (Err fault) failed other
of_status Failed failed other cause = cause
of_status NoMemory failed other cause = cause

-- a part that stops at a refused put or write, or for want of memory
stopped_by : (fault : StoreFault) (plan : ListingPlan) (cert : List ℕ) (store store' : StoreState) (old new : SinkState) → IsUncut plan → IsListedWith plan (Some cert) (Err fault) store store' old new
    → IsCarriedOut (plan_answers plan cert) (Err fault) (cert ∷ []) store store' old new
stopped_by fault plan cert store store' old new uncut listed = record {
  done = tt;
  refused =
      partly plan cert store old new listed.err.stop listed.err.worlds uncut listed.err.stop_is listed.err.exactly
      (GrownInPart-longer old.bytes new.bytes (flat_map world_line listed.err.worlds) (part_line (count_of listed.err.worlds)) listed.err.part);
  by_cause = record { cause = of_status fault _ _ listed.cause; kept = listed.kept };
}

pub stopped : (r : Result Status StoreFault) (fault : StoreFault) (plan : ListingPlan) (cert : List ℕ) (store store' : StoreState) (old new : SinkState) → r ≡ Err fault → IsUncut plan
    → IsListedWith plan (Some cert) (Err fault) store store' old new → IsCarriedOut (plan_answers plan cert) r (cert ∷ []) store store' old new
stopped r fault plan cert store store' old new e uncut listed =
    subst (λ x. IsCarriedOut (plan_answers plan cert) x (cert ∷ []) store store' old new) (sym e) (stopped_by fault plan cert store store' old new uncut listed)

-- a part whose worlds are put and whose certificate is written, and then its last line
pub carried : (r : Result Status StoreFault) (plan : ListingPlan) (cert : List ℕ) (place : Stop) (count : ℕ) (store mid : StoreState) (old between new : SinkState) → IsUncut plan
    → IsListedWith plan (Some cert) (Ok (record { count = count; stop = place })) store mid old between → IfOk r (λ s. s ≡ status.Done) → LeavesPiece r (part_line count) between new
    → IsCarriedOut (plan_answers plan cert) r (cert ∷ []) store mid old new
carried (Ok s) plan cert place count store mid old between new uncut with_cert done last =
    let listed = with_cert.ok in
    record {
      done = record {
        text = part_text listed.worlds;
        files = record { name = cert; bytes = mid.held cert } ∷ [];
        asked = record {
          worlds = listed.worlds;
          exactly = all_listed plan place listed.worlds uncut listed.stop_is listed.exactly;
          put = refl;
          ended = done;
          node = stop_place place;
          node_is = at_end plan place uncut listed.stop_is;
          bytes = mid.held cert;
          certified = certified plan.problem plan.start (stop_place place) listed.worlds (Some cert) store.held mid.held listed.exactly with_cert.left;
          written = refl;
        };
        answered = ap ending_of done;
        put = last.ok ∙ ap (λ told. added told (part_line count)) listed.put
            ∙ added-added old.bytes (flat_map world_line listed.worlds) (part_line count)
            ∙ ap (λ (n : ℕ). added old.bytes (flat_map world_line listed.worlds ++ part_line n)) listed.counted;
        written = cert_written plan.problem plan.start (stop_place place) (Some cert) store.held mid.held with_cert.left with_cert.kept;
      };
      refused = tt;
      by_cause = record { cause = (with_cert.cause.0, last.cause ∙ with_cert.cause.1); kept = with_cert.kept };
    }
carried (Err fault) plan cert place count store mid old between new uncut with_cert done last =
    let listed = with_cert.ok in
    record {
      done = tt;
      refused =
          partly plan cert store old new place listed.worlds uncut listed.stop_is listed.exactly
          (GrownInPart-after old.bytes between.bytes new.bytes (flat_map world_line listed.worlds) (part_line (count_of listed.worlds)) listed.put
          (subst (λ (n : ℕ). GrownInPart between.bytes new.bytes (part_line n)) listed.counted last.err));
      by_cause = record { cause = by fault last.cause; kept = with_cert.kept };
    }
  where
    by : (fault : StoreFault) → IfFailed {T = Status} (Err fault) (Rose between.faults new.faults) (new.faults ≡ between.faults)
        → IfFailed {T = Status} (Err fault) (IsWriteCause (cert ∷ []) store mid old new) (IsQuiet store mid × (new.faults ≡ old.faults))
    by Failed cause = inl (subst (λ (n : ℕ). Rose n new.faults) with_cert.cause.1 cause, with_cert.cause.0)
    by NoMemory cause = (with_cert.cause.0, cause ∙ with_cert.cause.1)
