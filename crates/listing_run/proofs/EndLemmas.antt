-- What comes of a listing that is carried out.
use Rattle.std.proofs.Common.{◌≡◌, Result, Ok, subst}
use Rattle.outer_store.specs.declared.fault.StoreFault.{StoreFault}
use Rattle.run_ends.specs.declared.Status.{Status}
use Rattle.outer_store.specs.States.{StoreState, SinkState}
use Rattle.run_ends.specs.Runs.{IsCarriedOut}
use Rattle.run_ends.proofs.EndLemmas.{carried_as}
use Rattle.command_line.specs.declared.request.AlignArgs.{AlignArgs}
use Rattle.listing_run.specs.declared.plan.ListingPlan.{ListingPlan}
use Rattle.listing_run.specs.Output.{ComesTo, IsListingAnswer, written_names}
use Rattle.listing_run.specs.Steps.{plan_answers}

-- a plan that is carried out is what its words asked for, behind reads that left the store as it was
pub listing_carried : (args : AlignArgs) (plan : ListingPlan) (r : Result Status StoreFault) (one mid other : StoreState) (old new : SinkState) → mid ≡ one → ComesTo args one.held (Ok plan)
    → IsCarriedOut (plan_answers plan args.cert args.token) r (written_names args.cert args.token) mid other old new
    → IsCarriedOut (IsListingAnswer args) r (written_names args.cert args.token) one other old new
listing_carried args plan r one mid other old new same comes carried =
    carried_as (plan_answers plan args.cert args.token) (IsListingAnswer args) r (written_names args.cert args.token) one other old new
    (λ s text files listed. record { outcome = Ok plan; comes = comes; answer = listed })
    (subst (λ (state : StoreState). IsCarriedOut (plan_answers plan args.cert args.token) r (written_names args.cert args.token) state other old new) same carried)
