-- How a run of the desk ends, by its parts.
use Rattle.std.proofs.Common.{◌≡◌, ℕ, List, [], Option, Ok, Err, refl, sym, subst, ◌∙◌, inl, inr, ⊎_elim}
use Rattle.outer_store.specs.Bytes.{GrownInPart, added}
use Rattle.outer_store.specs.Contents.{Contents}
use Rattle.outer_store.specs.Faults.{Rose}
use Rattle.outer_store.specs.States.{StoreState, SinkState, IsQuiet}
use Rattle.outer_store.specs.declared.fault.StoreFault.TheVariants as fault
use Rattle.outer_store.proofs.BytesLemmas.{GrownInPart-kept}
use Rattle.world_model.specs.Problem.{Problem}
use Rattle.desk_run.specs.declared.script.requests.DeskRequest.{DeskRequest}
use Rattle.command_line.specs.declared.request.DeskArgs.{DeskArgs}
use Rattle.command_line.specs.Requests.{Names, desk_names}
use Rattle.run_ends.specs.declared.Status.TheVariants as status
use Rattle.run_ends.specs.Ends.{end_line}
use Rattle.run_ends.specs.Runs.{Answers, IsPutInPart, IsInterrupted, IsRunBy}
use Rattle.run_ends.proofs.EndLemmas.{GrownInPart-all, all_kept, none_written}
use Rattle.desk_run.specs.declared.DeskStatus.{DeskStatus}
use Rattle.desk_run.specs.declared.DeskStatus.TheVariants.{Done, ReadFault, WriteFault, NoMemory}
use Rattle.desk_run.specs.Ends.{desk_ending_of, desk_end_line, IsDeskLastPut}
use Rattle.desk_run.specs.Answering.{IsServed, IsOutcome, IsAnswerBy, IsDeskAnswer}
use Rattle.desk_run.specs.Steps.{IsEarlyEndOf, IsAsked, IsServedOut}

-- a run that ends with this status
abbrev pub IsDeskRunOf : Names → Answers DeskStatus → DeskStatus → StoreState → StoreState → SinkState → SinkState → Type 0
IsDeskRunOf names answers status one other old new = IsRunBy (desk_ending_of status) names answers status one other old new

-- so of a run of the desk
abbrev pub IsDeskRun : DeskArgs → DeskStatus → StoreState → StoreState → SinkState → SinkState → Type 0
IsDeskRun args status one other old new = IsDeskRunOf (desk_names args) (IsDeskAnswer args) status one other old new

-- nothing of an answer is put
nothing_put : (answers : Answers DeskStatus) (held : Contents) (old new : Option (List ℕ)) → GrownInPart old new (end_line status.NoMemory) → IsPutInPart answers held old new
nothing_put answers held old new part = record {
  text = [];
  of_answer = inr refl;
  cut = record { between = old; begun = GrownInPart-kept old old [] refl; ended = part };
}

-- a first part of an answer is put
answer_put : (answers : Answers DeskStatus) (held : Contents) (s : DeskStatus) (text : List ℕ) (old mid new : Option (List ℕ)) → answers held s text []
    → GrownInPart old mid text → GrownInPart mid new (end_line status.NoMemory) → IsPutInPart answers held old new
answer_put answers held s text old mid new answer begun ended = record {
  text = text;
  of_answer = inl (s, [], answer);
  cut = record { between = mid; begun = begun; ended = ended };
}

-- a last line that is put whole, refused or starved: each way has its end
module _ (names : Names) (answers : Answers DeskStatus) (s r : DeskStatus) (one other : StoreState) (old new : SinkState) (kept : other.held ≡ one.held) where
  ends : IsDeskLastPut s r (desk_end_line s) old new
      → (new.bytes ≡ added old.bytes (desk_end_line s) → new.faults ≡ old.faults → IsDeskRunOf names answers s one other old new)
      → (GrownInPart old.bytes new.bytes (desk_end_line s) → IsInterrupted names answers one other old new)
      → IsDeskRunOf names answers r one other old new
  ends last whole part = ⊎_elim
      (λ put. subst (λ x. IsDeskRunOf names answers x one other old new) (sym put.0) (whole put.1 put.2))
      (λ rest. ⊎_elim
      (λ refused. subst (λ x. IsDeskRunOf names answers x one other old new) (sym refused.0) (record {
        cause = inl (refused.2, part refused.1);
        kept = all_kept names.written one.held other.held kept;
      }))
      (λ starved. subst (λ x. IsDeskRunOf names answers x one other old new) (sym starved.0) (record {
        no_put_failed = starved.2;
        put = part starved.1;
        kept = all_kept names.written one.held other.held kept;
      }))
      rest)
      last

-- a run that ends before anything is put
pub run_early : (names : Names) (answers : Answers DeskStatus) (s r : DeskStatus) (one other : StoreState) (old new : SinkState) → other.held ≡ one.held
    → IsEarlyEndOf names answers s one other → IsDeskLastPut s r (desk_end_line s) old new → IsDeskRunOf names answers r one other old new
run_early names answers s r one other old new kept early last = ⊎_elim
    (λ refused. ends names answers s r one other old new kept last
    (λ put same. subst (λ ending. IsRunBy ending names answers s one other old new) (sym refused.1) (record {
      text = desk_end_line s;
      files = [];
      asked = refused.0;
      put = put;
      written = none_written one.held other.held kept;
      quiet = refused.2;
      no_put_failed = same;
    }))
    (λ part. inr (
      refused.2,
      answer_put answers one.held s (desk_end_line s) old.bytes new.bytes new.bytes refused.0 part (GrownInPart-kept new.bytes new.bytes (end_line status.NoMemory) refl),
    )))
    (λ rest. ⊎_elim
    (λ failed. ends names answers ReadFault r one other old new kept (subst (λ x. IsDeskLastPut x r (desk_end_line x) old new) failed.0 last)
    (λ put same. record { failed = failed.1; said = put; kept = kept; no_put_failed = same })
    (λ part. inl (failed.1, part)))
    (λ starved. ends names answers NoMemory r one other old new kept (subst (λ x. IsDeskLastPut x r (desk_end_line x) old new) starved.0 last)
    (λ put same. record {
      no_put_failed = same;
      put = inr (starved.1, nothing_put answers one.held old.bytes new.bytes (GrownInPart-all old.bytes new.bytes (end_line status.NoMemory) put));
      kept = all_kept names.written one.held other.held kept;
    })
    (λ part. inr (starved.1, nothing_put answers one.held old.bytes new.bytes part)))
    rest)
    early

-- what is put of served requests is the answer
pub served_answer : (args : DeskArgs) (held : Contents) (p : Problem) (requests : List DeskRequest) (text : List ℕ) → IsAsked args held p requests → IsServed p requests text
    → IsDeskAnswer args held Done text []
served_answer args held p requests text asked served = record {
  bytes = asked.0.0;
  told = asked.0.1.0;
  answer = subst (λ r. IsAnswerBy r (held args.script) Done text []) (sym asked.0.1.1) (record {
    bytes = asked.1.0;
    told = asked.1.1.0;
    outcome = subst (λ o. IsOutcome p o Done text []) (sym asked.1.1.1) (refl, served, refl);
  });
}

-- a run whose script is served
module _ (args : DeskArgs) (p : Problem) (requests : List DeskRequest) (one other : StoreState) (old : SinkState)
    (asked : IsAsked args one.held p requests) (quiet : IsQuiet one other) (kept : other.held ≡ one.held) where
  pub run_served : (new : SinkState) → IsServedOut {T = Unit {0}} p requests (Ok tt) old new → IsDeskRun args Done one other old new
  run_served new out = record {
    text = out.0;
    files = [];
    asked = served_answer args one.held p requests out.0 asked out.1.0;
    put = out.1.1.ok;
    written = none_written one.held other.held kept;
    quiet = quiet;
    no_put_failed = out.1.1.cause;
  }

  in_part : (mid new : Option (List ℕ)) (text : List ℕ) → IsServed p requests text → GrownInPart old.bytes mid text → GrownInPart mid new (end_line status.NoMemory)
      → IsPutInPart (IsDeskAnswer args) one.held old.bytes new
  in_part mid new text served = answer_put (IsDeskAnswer args) one.held Done text old.bytes mid new (served_answer args one.held p requests text asked served)

  pub run_refused : {T : Type 0} (new : SinkState) → IsServedOut {T = T} p requests (Err fault.Failed) old new → IsDeskRun args WriteFault one other old new
  run_refused new out = record {
    cause = inl (out.1.1.cause, inr (quiet, in_part new.bytes new.bytes out.0 out.1.0 out.1.1.err (GrownInPart-kept new.bytes new.bytes (end_line status.NoMemory) refl)));
    kept = all_kept [] one.held other.held kept;
  }

  pub run_starved : {T : Type 0} (r : DeskStatus) (mid new : SinkState) → IsServedOut {T = T} p requests (Err fault.NoMemory) old mid
      → IsDeskLastPut NoMemory r (desk_end_line NoMemory) mid new → IsDeskRun args r one other old new
  run_starved r mid new out last =
      let put = in_part mid.bytes new.bytes out.0 out.1.0 out.1.1.err in
      let same = out.1.1.cause in
      ⊎_elim
      (λ whole. subst (λ x. IsDeskRun args x one other old new) (sym whole.0) (record {
        no_put_failed = whole.2 ∙ same;
        put = inr (quiet, put (GrownInPart-all mid.bytes new.bytes (end_line status.NoMemory) whole.1));
        kept = all_kept [] one.held other.held kept;
      }))
      (λ rest. ⊎_elim
      (λ refused. subst (λ x. IsDeskRun args x one other old new) (sym refused.0) (record {
        cause = inl (subst (λ (n : ℕ). Rose n new.faults) same refused.2, inr (quiet, put refused.1));
        kept = all_kept [] one.held other.held kept;
      }))
      (λ starved. subst (λ x. IsDeskRun args x one other old new) (sym starved.0) (record {
        no_put_failed = starved.2 ∙ same;
        put = inr (quiet, put starved.1);
        kept = all_kept [] one.held other.held kept;
      }))
      rest)
      last
