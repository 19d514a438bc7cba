-- Calls that are to fail, by their numbers.
use Rattle.std.specs.Prelude.{ℕ, Bool, ◌==◌, List, if◌then◌else◌}
use Rattle.std.specs.List.{list_any}
use Rattle.outer_store.specs.Faults.{next}

-- the numbers of the calls that are to fail, and how many calls and faults there were
pub record Plan : Type 0 where
  pub failing : List ℕ
  pub calls : ℕ
  pub faults : ℕ

-- the number of the next call is listed
abbrev pub fails_next : Plan → Bool
fails_next plan = list_any (λ number. number == next plan.calls) plan.failing

-- no call has been made yet
abbrev pub fresh_plan : List ℕ → Plan
fresh_plan failing = record { failing = failing; calls = 0; faults = 0 }

-- one call later
abbrev pub called : Plan → Plan
called plan = record { failing = plan.failing; calls = next plan.calls; faults = if fails_next plan then next plan.faults else plan.faults }
