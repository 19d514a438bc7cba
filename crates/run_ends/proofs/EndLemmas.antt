-- How a run ends, by its parts.
use Rattle.std.proofs.Common.{◌≡◌, ℕ, List, [], Option, Result, Ok, Err, refl, sym, ap, subst, ◌∙◌, inl, inr, ⊎_elim, append-nil}
use Rattle.std.proofs.lemmas.List.Elements.{All-nil}
use Rattle.outer_store.specs.Bytes.{GrownInPart, added}
use Rattle.outer_store.specs.Contents.{Contents}
use Rattle.outer_store.specs.Faults.{Rose}
use Rattle.outer_store.specs.declared.fault.StoreFault.{StoreFault}
use Rattle.outer_store.specs.declared.fault.StoreFault.TheVariants as fault
use Rattle.outer_store.proofs.BytesLemmas.{GrownInPart-kept, GrownInPart-whole}
use Rattle.run_ends.specs.declared.Status.{Status}
use Rattle.run_ends.specs.declared.Status.TheVariants as status
use Rattle.run_ends.specs.Ends.{end_line, IsLastPut}
use Rattle.outer_store.specs.States.{StoreState, SinkState}
use Rattle.command_line.specs.Requests.{Names}
use Rattle.run_ends.specs.Runs.{File, Answers, IsHeld, AreWritten, AreKeptBut, IsAskedText, IsPutInPart, IsInterrupted, IsRunBy, IsRunOf, IsEarlyEnd, IsPutPart, IsCarriedOut}

pub GrownInPart-all : (old new : Option (List ℕ)) (piece : List ℕ) → new ≡ added old piece → GrownInPart old new piece
GrownInPart-all old new piece e = subst (GrownInPart old new) (append-nil piece) (GrownInPart-whole old new piece [] e)

-- what holds nothing new is kept
pub all_kept : (names : List (List ℕ)) (held held' : Contents) → held' ≡ held → AreKeptBut names held held'
all_kept names held held' e = λ other apart. ap (λ (h : Contents). h other) e

-- where nothing is written all is kept
pub none_written : (held held' : Contents) → held' ≡ held → AreWritten [] held held'
none_written held held' e = record { each = All-nil (IsHeld held held'); others = all_kept [] held held' e }

-- a first part of a text that is asked for, and then of the line that memory was wanting
put_in_part : (answers : Answers Status) (held : Contents) (text : List ℕ) (old mid new : Option (List ℕ))
    → IsAskedText answers held text → GrownInPart old mid text → GrownInPart mid new (end_line status.NoMemory) → IsPutInPart answers held old new
put_in_part answers held text old mid new asked begun ended = record {
  text = text;
  of_answer = asked;
  cut = record { between = mid; begun = begun; ended = ended };
}

nothing_put : (answers : Answers Status) (held : Contents) (old new : Option (List ℕ)) → GrownInPart old new (end_line status.NoMemory) → IsPutInPart answers held old new
nothing_put answers held old new part = record {
  text = [];
  of_answer = inr refl;
  cut = record { between = old; begun = GrownInPart-kept old old [] refl; ended = part };
}

-- the last line of a status that has this one, put whole, refused or starved: each way has its end
ends : (names : Names) (answers : Answers Status) (s r : Status) (one other : StoreState) (old new : SinkState)
    → IsLastPut s r (end_line s) old new
    → (new.bytes ≡ added old.bytes (end_line s) → new.faults ≡ old.faults → IsRunOf names answers s one other old new)
    → (GrownInPart old.bytes new.bytes (end_line s) → IsInterrupted names answers one other old new) → other.held ≡ one.held
    → IsRunOf names answers r one other old new
ends names answers s r one other old new last whole part kept = ⊎_elim
    (λ put. subst (λ x. IsRunOf names answers x one other old new) (sym put.0) (whole put.1 put.2))
    (λ rest. ⊎_elim
    (λ refused. subst (λ x. IsRunOf names answers x one other old new) (sym refused.0) (record {
      cause = inl (refused.2, part refused.1);
      kept = all_kept names.written one.held other.held kept;
    }))
    (λ starved. subst (λ x. IsRunOf names answers x one other old new) (sym starved.0) (record {
      no_put_failed = starved.2;
      put = part starved.1;
      kept = all_kept names.written one.held other.held kept;
    }))
    rest)
    last

-- a run that ends before anything is put
pub run_early : (names : Names) (answers : Answers Status) (s r : Status) (one other : StoreState) (old new : SinkState) → IsEarlyEnd names answers s one other → other.held ≡ one.held
    → IsLastPut s r (end_line s) old new → IsRunOf names answers r one other old new
run_early names answers s r one other old new early kept last = ⊎_elim
    (λ refused. ends names answers s r one other old new last
    (λ put same. subst (λ ending. IsRunBy ending names answers s one other old new) (sym refused.1) (record {
      text = end_line s;
      files = [];
      asked = refused.0;
      put = put;
      written = none_written one.held other.held kept;
      quiet = refused.2;
      no_put_failed = same;
    }))
    (λ part. inr (
      refused.2,
      put_in_part answers one.held (end_line s) old.bytes new.bytes new.bytes (inl (s, [], refused.0)) part
          (GrownInPart-kept new.bytes new.bytes (end_line status.NoMemory) refl),
    ))
    kept)
    (λ rest. ⊎_elim
    (λ failed. let last' = subst (λ x. IsLastPut x r (end_line x) old new) failed.0 last in
    ends names answers status.ReadFault r one other old new last'
    (λ put same. record { failed = failed.1; said = put; kept = kept; no_put_failed = same })
    (λ part. inl (failed.1, part))
    kept)
    (λ starved. let last' = subst (λ x. IsLastPut x r (end_line x) old new) starved.0 last in
    ends names answers status.NoMemory r one other old new last'
    (λ put same. record {
      no_put_failed = same;
      put = inr (starved.1, nothing_put answers one.held old.bytes new.bytes (GrownInPart-all old.bytes new.bytes (end_line status.NoMemory) put));
      kept = all_kept names.written one.held other.held kept;
    })
    (λ part. inr (starved.1, nothing_put answers one.held old.bytes new.bytes part))
    kept)
    rest)
    early

-- a run that puts its answer
pub run_done : (names : Names) (answers : Answers Status) (s : Status) (one other : StoreState) (old new : SinkState)
    → IsCarriedOut answers (Ok s) names.written one other old new → IsRunOf names answers s one other old new
run_done names answers s one other old new carried =
    let done = carried.done in
    subst (λ ending. IsRunBy ending names answers s one other old new) (sym done.answered) (record {
      text = done.text;
      files = done.files;
      asked = done.asked;
      put = done.put;
      written = done.written;
      quiet = carried.by_cause.cause.0;
      no_put_failed = carried.by_cause.cause.1;
    })

partly : (answers : Answers Status) (one : StoreState) (old mid : SinkState) (new : Option (List ℕ)) → IsPutPart answers one old mid
    → GrownInPart mid.bytes new (end_line status.NoMemory) → IsPutInPart answers one.held old.bytes new
partly answers one old mid new part ended = put_in_part answers one.held part.text old.bytes mid.bytes new part.of_answer part.part ended

-- one whose put or write is refused
pub run_refused : (names : Names) (answers : Answers Status) (one other : StoreState) (old new : SinkState)
    → IsCarriedOut answers (Err fault.Failed) names.written one other old new → IsRunOf names answers status.WriteFault one other old new
run_refused names answers one other old new carried =
    let put = partly answers one old new new.bytes carried.refused (GrownInPart-kept new.bytes new.bytes (end_line status.NoMemory) refl) in
    record {
      cause = ⊎_elim
          (λ failed. inl (failed.0, inr (failed.1, put)))
          (λ failed. inr (record { failed = failed.0; put = put; no_put_failed = failed.1 }))
          carried.by_cause.cause;
      kept = carried.by_cause.kept;
    }

-- and one that finds no memory
pub run_starved : (names : Names) (answers : Answers Status) (r : Status) (one other : StoreState) (old mid new : SinkState)
    → IsCarriedOut answers (Err fault.NoMemory) names.written one other old mid
    → IsLastPut status.NoMemory r (end_line status.NoMemory) mid new → IsRunOf names answers r one other old new
run_starved names answers r one other old mid new carried last =
    let put = partly answers one old mid new.bytes carried.refused in
    let quiet = carried.by_cause.cause.0 in
    let same = carried.by_cause.cause.1 in
    ⊎_elim
    (λ whole. subst (λ x. IsRunOf names answers x one other old new) (sym whole.0) (record {
      no_put_failed = whole.2 ∙ same;
      put = inr (quiet, put (GrownInPart-all mid.bytes new.bytes (end_line status.NoMemory) whole.1));
      kept = carried.by_cause.kept;
    }))
    (λ rest. ⊎_elim
    (λ refused. subst (λ x. IsRunOf names answers x one other old new) (sym refused.0) (record {
      cause = inl (subst (λ (n : ℕ). Rose n new.faults) same refused.2, inr (quiet, put refused.1));
      kept = carried.by_cause.kept;
    }))
    (λ starved. subst (λ x. IsRunOf names answers x one other old new) (sym starved.0) (record {
      no_put_failed = starved.2 ∙ same;
      put = inr (quiet, put starved.1);
      kept = carried.by_cause.kept;
    }))
    rest)
    last

-- what answers one question answers another
pub carried_as : (answers others : Answers Status) (r : Result Status StoreFault) (names : List (List ℕ)) (one other : StoreState) (old new : SinkState)
    → ((s : Status) (text : List ℕ) (files : List File) → answers one.held s text files → others one.held s text files)
    → IsCarriedOut answers r names one other old new → IsCarriedOut others r names one other old new
carried_as answers others (Ok s) names one other old new answer carried = record {
  done = record {
    text = carried.done.text;
    files = carried.done.files;
    asked = answer s carried.done.text carried.done.files carried.done.asked;
    answered = carried.done.answered;
    put = carried.done.put;
    written = carried.done.written;
  };
  refused = tt;
  by_cause = carried.by_cause;
}
carried_as answers others (Err f) names one other old new answer carried = record {
  done = tt;
  refused = record {
    text = carried.refused.text;
    of_answer = ⊎_elim (λ some. inl (some.0, some.1, answer some.0 carried.refused.text some.1 some.2)) (λ none. inr none) carried.refused.of_answer;
    part = carried.refused.part;
  };
  by_cause = carried.by_cause;
}
