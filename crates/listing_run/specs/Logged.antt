-- What a listing leaves in a log and in the file of a certificate.
use Rattle.std.specs.Prelude.{◌≡◌, ◌≤◌, ℕ, List, Option, Some, None, IfSome, IfOk, OnOk, OnErr, Result, ◌⊎◌, ⊤}
use Rattle.std.specs.Option.{option_to_list}
use Rattle.outer_store.specs.Contents.{Contents}
use Rattle.outer_store.specs.Faults.{Rose, IfFailed}
use Rattle.outer_store.specs.States.{StoreState, SinkState, IsQuiet}
use Rattle.outer_store.specs.declared.fault.StoreFault.{StoreFault}
use Rattle.rcc5_core.specs.declared.Rel.{Rel}
use Rattle.world_model.specs.Problem.{Problem}
use Rattle.world_model.specs.Listing.{IsListing}
use Rattle.cert_text.specs.Logs.{Told}
use Rattle.point_query.specs.Asking.{AskerState}
use Rattle.cert_rules.specs.Parts.Certs.{IsListingCert}
use Rattle.world_search.specs.Logging.{KeepsOn, AddsLines}
use Rattle.world_search.specs.Searching.{SearchState}
use Rattle.run_ends.specs.Runs.{AreKeptBut, IsWriteCause}
use Rattle.listing_run.specs.declared.plan.Listed.{Listed}
use Rattle.listing_run.specs.declared.plan.ListingPlan.{ListingPlan}
use Rattle.listing_run.specs.declared.plan.Stop.{Stop}
use Rattle.listing_run.specs.declared.listing.Met.{Met}
use Rattle.listing_run.specs.declared.listing.Met.TheVariants as met
use Rattle.listing_run.specs.Plans.{stop_place}
use Rattle.listing_run.specs.Putting.{IsPutToStop, IsPutPartly}

-- what a step leaves of a log: a failure only where its count rose, and else no count that moved
pub record LogMoves {L T : Type 0} (faults : L → ℕ) (steady quiet : L → L → Type 0) (result : Result T StoreFault) (old new : L) : Type 0 where
  pub cause : IfFailed result (Rose (faults old) (faults new)) ((faults new ≡ faults old) × quiet old new)
  pub comes : steady old new

-- the place at which a search that is logged stands, by what it met and by where it stopped
abbrev pub MetAt : Met → Option (List Rel) → Type 0
MetAt (met.World table) at = ⊤
MetAt (met.Cut node) at = at ≡ Some node
MetAt (met.End node) at = at ≡ node

abbrev pub StoppedAt : Stop → Option (List Rel) → Type 0
StoppedAt stop at = at ≡ stop_place stop

-- what a call tells a log that goes on with the search of a plan: lines that keep up with the search, which then stands at some place
pub record TellsOn {L T : Type 0} (lines : L → Told) (faults : L → ℕ) (steady quiet : L → L → Type 0) (IsAt : T → Option (List Rel) → Type 0) (plan : ListingPlan)
    (result : Result T StoreFault) (one other : SearchState) (asker asker' : AskerState) (old new : L) : Type 0 where
  pub keeps : OnOk result (KeepsOn plan.problem one.from (lines old) (lines new) asker asker' one.expects other.expects)
  pub told : OnOk result (AddsLines (lines old) (lines new))
  pub at : IfOk result (λ done. IfSome (lines old) (λ _. IsAt done other.expects))
  pub log : LogMoves faults steady quiet result old new

-- a put failed and no call of the log, or a call of the log and no put
abbrev pub IsEitherFailed : {L : Type 0} → (L → ℕ) → (L → L → Type 0) → SinkState → SinkState → L → L → Type 0
IsEitherFailed faults quiet sink sink' old new =
    (Rose sink.faults sink'.faults × quiet old new) ⊎ (Rose (faults old) (faults new) × (sink'.faults ≡ sink.faults))

-- what a listing leaves on a sink and in a log: a line for each world up to where it stops, or after a fault a first part of these
-- lines, and what is told of the log then; and which calls failed
pub record IsListedIn {L : Type 0} (lines : L → Told) (faults : L → ℕ) (steady quiet : L → L → Type 0) (IsTold : Option (List Rel) → Told → Type 0)
    (plan : ListingPlan) (result : Result Listed StoreFault) (sink sink' : SinkState) (old new : L) : Type 0 where
  pub ok : IfOk result (λ listed. IsPutToStop plan sink.bytes sink'.bytes listed.stop listed.count)
  pub err : OnErr result (IsPutPartly plan sink.bytes sink'.bytes)
  pub told : IfOk result (λ listed. IsTold (stop_place listed.stop) (lines new))
  pub cause : IfFailed result (IsEitherFailed faults quiet sink sink' old new) ((sink'.faults ≡ sink.faults) × (faults new ≡ faults old) × quiet old new)
  pub later : sink.faults ≤ sink'.faults
  pub comes : steady old new

-- a name that told its bytes tells the certificate of a listing
abbrev pub IsCertLeft : Problem → List Rel → Option (List Rel) → Option (List ℕ) → Contents → Contents → Type 0
IsCertLeft p from to None held held' = ⊤
IsCertLeft p from to (Some name) held held' =
    IfSome (held name) (λ _. (bytes : List ℕ) × (held' name ≡ Some bytes) × ((worlds : List (List Rel)) → IsListing p from to worlds → IsListingCert p from to worlds bytes))

-- what a listing leaves on a sink and in a store, with the name of its certificate, if there is one
pub record IsListedWith (plan : ListingPlan) (cert : Option (List ℕ)) (result : Result Listed StoreFault) (store store' : StoreState) (sink sink' : SinkState) : Type 0 where
  pub ok : IfOk result (λ listed. IsPutToStop plan sink.bytes sink'.bytes listed.stop listed.count)
  pub err : OnErr result (IsPutPartly plan sink.bytes sink'.bytes)
  pub left : IfOk result (λ listed. IsCertLeft plan.problem plan.start (stop_place listed.stop) cert store.held store'.held)
  pub kept : AreKeptBut (option_to_list cert) store.held store'.held
  pub cause : IfFailed result (IsWriteCause (option_to_list cert) store store' sink sink') (IsQuiet store store' × (sink'.faults ≡ sink.faults))
