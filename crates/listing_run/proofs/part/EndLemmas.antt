-- What comes of a part that is put.
use Rattle.std.proofs.Common.{◌≡◌, ℕ, List, [], ◌∷◌, Result, Ok, subst}
use Rattle.outer_store.specs.declared.fault.StoreFault.{StoreFault}
use Rattle.outer_store.specs.States.{StoreState, SinkState}
use Rattle.command_line.specs.declared.request.PartArgs.{PartArgs}
use Rattle.run_ends.specs.declared.Status.{Status}
use Rattle.run_ends.specs.Runs.{IsCarriedOut}
use Rattle.run_ends.proofs.EndLemmas.{carried_as}
use Rattle.listing_run.specs.declared.plan.ListingPlan.{ListingPlan}
use Rattle.listing_run.specs.Part.Answering.{ComesTo, IsPartAnswer}
use Rattle.listing_run.specs.Part.Steps.{plan_answers}

-- a plan that is put is what its words asked for, behind reads that left the store as it was
pub part_carried : (args : PartArgs) (cert : List ℕ) (plan : ListingPlan) (r : Result Status StoreFault) (one mid other : StoreState) (old new : SinkState) → cert ≡ args.cert → mid ≡ one
    → ComesTo args one.held (Ok plan) → IsCarriedOut (plan_answers plan cert) r (cert ∷ []) mid other old new
    → IsCarriedOut (IsPartAnswer args) r (args.cert ∷ []) one other old new
part_carried args cert plan r one mid other old new named same comes carried =
    carried_as (plan_answers plan args.cert) (IsPartAnswer args) r (args.cert ∷ []) one other old new
    (λ s text files listed. record { outcome = Ok plan; comes = comes; answer = listed })
    (subst (λ (name : List ℕ). IsCarriedOut (plan_answers plan name) r (name ∷ []) one other old new) named
    (subst (λ (state : StoreState). IsCarriedOut (plan_answers plan cert) r (cert ∷ []) state other old new) same carried))
