-- How a trial ends, by how its text was put.
use Rattle.std.proofs.Common.{◌≡◌, ℕ, List, [], refl, inl, inr}
use Rattle.outer_store.specs.Bytes.{GrownInPart, added}
use Rattle.outer_store.specs.Faults.{Rose}
use Rattle.run_ends.specs.declared.Status.{Status}
use Rattle.run_ends.specs.declared.Status.TheVariants as status
use Rattle.run_ends.specs.Ends.{end_line, IsLastPut}
use Rattle.outer_store.specs.States.{StoreState, SinkState}
use Rattle.run_ends.specs.Runs.{IsRunOf}
use Rattle.run_ends.proofs.EndLemmas.{all_kept, none_written, run_early, run_done, run_refused, run_starved}
use Rattle.trial_run.specs.Trials.{IsSummary, IsTrialAnswer, trial_names}

module _ (seed size : ℕ) (text : List ℕ) (is : IsSummary seed size text) (one : StoreState) (old new : SinkState) where
  answer : IsTrialAnswer seed size one.held status.Done text []
  answer = record { ended = refl; put = is; none_written = refl }

  -- it is put
  pub trial_done : new.bytes ≡ added old.bytes text → new.faults ≡ old.faults → IsRunOf trial_names (IsTrialAnswer seed size) status.Done one one old new
  trial_done put same = run_done trial_names (IsTrialAnswer seed size) status.Done one one old new (record {
    done = record { text = text; files = []; asked = answer; answered = refl; put = put; written = none_written one.held one.held refl };
    refused = tt;
    by_cause = record { cause = ((refl, refl), same); kept = all_kept [] one.held one.held refl };
  })

  -- the put is refused
  pub trial_refused : GrownInPart old.bytes new.bytes text → Rose old.faults new.faults → IsRunOf trial_names (IsTrialAnswer seed size) status.WriteFault one one old new
  trial_refused part rose = run_refused trial_names (IsTrialAnswer seed size) one one old new (record {
    done = tt;
    refused = record { text = text; of_answer = inl (status.Done, [], answer); part = part };
    by_cause = record { cause = inl (rose, (refl, refl)); kept = all_kept [] one.held one.held refl };
  })

  -- it finds no memory
  pub trial_starved : (r : Status) (last : SinkState) → GrownInPart old.bytes new.bytes text → new.faults ≡ old.faults
      → IsLastPut status.NoMemory r (end_line status.NoMemory) new last → IsRunOf trial_names (IsTrialAnswer seed size) r one one old last
  trial_starved r last part same put = run_starved trial_names (IsTrialAnswer seed size) r one one old new last (record {
    done = tt;
    refused = record { text = text; of_answer = inl (status.Done, [], answer); part = part };
    by_cause = record { cause = ((refl, refl), same); kept = all_kept [] one.held one.held refl };
  }) put

-- there is no text
pub trial_early : (seed size : ℕ) (r : Status) (one : StoreState) (old new : SinkState)
    → IsLastPut status.NoMemory r (end_line status.NoMemory) old new → IsRunOf trial_names (IsTrialAnswer seed size) r one one old new
trial_early seed size r one old new put = run_early trial_names (IsTrialAnswer seed size) status.NoMemory r one one old new (inr (inr (refl, (refl, refl)))) refl put
