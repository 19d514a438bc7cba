-- The steps of a listing: a plan is read, and then carried out.
use Rattle.std.specs.Prelude.{◌≡◌, ℕ, ◌==◌, ◌&&◌, if◌then◌else◌, List, [], ◌∷◌, length, Option, None, Some, option_map, IfNone, IfOk, OnErr, Result}
use Rattle.std.specs.Option.{option_to_list}
use Rattle.outer_store.specs.Bytes.{GrownInPart, added}
use Rattle.outer_store.specs.Contents.{OthersKept}
use Rattle.outer_store.specs.Faults.{IfFailed}
use Rattle.outer_store.specs.declared.fault.StoreFault.{StoreFault}
use Rattle.rcc5_core.specs.declared.Rel.{Rel}
use Rattle.world_model.specs.Problem.{Problem}
use Rattle.constraint_set.specs.Facts.{IsAsRead}
use Rattle.run_ends.specs.Token.Token.{token_text}
use Rattle.run_ends.specs.declared.Status.{Status}
use Rattle.run_ends.specs.declared.Status.TheVariants.{Done, Cut, NoWorld}
use Rattle.outer_store.specs.States.{StoreState, SinkState, IsQuiet}
use Rattle.run_ends.specs.Runs.{Answers, AreWritten, IsWriteCause, IsByCause}
use Rattle.command_line.specs.Requests.{AreApart}
use Rattle.listing_run.specs.declared.plan.ListingPlan.{ListingPlan}
use Rattle.listing_run.specs.declared.plan.Stop.{Stop}
use Rattle.listing_run.specs.declared.plan.Stop.TheVariants as stop
use Rattle.listing_run.specs.Plans.{IsPlan}
use Rattle.listing_run.specs.Output.{token_under, IsListed, cut_line, last_line}

-- a plan without an end that can be carried out, with the names for its certificate and its token
pub record IsListingReady (plan : ListingPlan) (cert token : Option (List ℕ)) : Type 0 where
  pub as_read : IsAsRead plan.problem
  pub is_plan : IsPlan plan
  pub endless : plan.end ≡ None
  pub limited : IfNone token ((plan.nodes ≡ None) × (plan.worlds ≡ None))
  pub two : AreApart cert token

-- the cut, by where the listing of such a plan stops
abbrev pub cut_of : Stop → Option (List Rel)
cut_of (stop.Cut node) = Some node
cut_of (stop.End _) = None

-- a good end by the count of worlds
abbrev pub status_at : List Rel → Option (List Rel) → ℕ → Status
status_at start (Some cut) count = Cut cut
status_at start None count = if (length start == 0) && (count == 0) then NoWorld else Done

-- the token of a cut is written, and the last line put
pub record IsCutEnded (result : Result Status StoreFault) (p : Problem) (cut : List Rel) (count : ℕ) (name : List ℕ) (store store' : StoreState) (sink sink' : SinkState) : Type 0 where
  pub status : IfOk result (λ status. status ≡ Cut cut)
  pub put : IfOk result (λ _. sink'.bytes ≡ added sink.bytes (cut_line count))
  pub written : IfOk result (λ _. store'.held name ≡ option_map (λ _. token_text p cut) (store.held name))
  pub others : OthersKept name store.held store'.held
  pub refused : OnErr result (GrownInPart sink.bytes sink'.bytes (cut_line count))
  pub cause : IfFailed result (IsWriteCause (name ∷ []) store store' sink sink') (IsQuiet store store' × (sink'.faults ≡ sink.faults))

-- the token of the cut is written, if there is one, and the last line put
pub record IsEnded (result : Result Status StoreFault) (plan : ListingPlan) (cut : Option (List Rel)) (count : ℕ) (name : Option (List ℕ)) (store store' : StoreState) (sink sink' : SinkState) : Type 0 where
  pub status : IfOk result (λ status. status ≡ status_at plan.start cut count)
  pub put : IfOk result (λ _. sink'.bytes ≡ added sink.bytes (last_line cut count))
  pub written : IfOk result (λ _. AreWritten (token_under plan.problem name cut store.held) store.held store'.held)
  pub refused : OnErr result (GrownInPart sink.bytes sink'.bytes (last_line cut count))
  pub by_cause : IsByCause result (option_to_list name) store store' sink sink'

-- the answers of a plan with these names for its files
abbrev pub plan_answers : ListingPlan → Option (List ℕ) → Option (List ℕ) → Answers Status
plan_answers plan cert token held status text files = IsListed plan cert token held status text files
