-- The steps of a part: a plan is read, and then put.
use Rattle.std.specs.Prelude.{◌≡◌, ℕ, List, None}
use Rattle.run_ends.specs.declared.Status.{Status}
use Rattle.run_ends.specs.Runs.{Answers}
use Rattle.listing_run.specs.declared.plan.ListingPlan.{ListingPlan}
use Rattle.listing_run.specs.Plans.{IsPlan}
use Rattle.listing_run.specs.Part.Answering.{IsListed}

-- a plan that can be carried out and that no limit cuts
pub record IsUncut (plan : ListingPlan) : Type 0 where
  pub is_plan : IsPlan plan
  pub nodes : plan.nodes ≡ None
  pub worlds : plan.worlds ≡ None

-- the answers of a plan with a name for its certificate
abbrev pub plan_answers : ListingPlan → List ℕ → Answers Status
plan_answers plan cert held status text files = IsListed plan cert held status text files
