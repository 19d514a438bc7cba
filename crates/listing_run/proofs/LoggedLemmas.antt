-- What a listing tells a log, step by step.
use Rattle.std.proofs.Common.{◌≡◌, ℕ, List, Option, Result, Ok, Err, refl, sym, subst, ◌∙◌, inl, inr, ⊎_elim, arith, ◌≤◌}
use Rattle.std.specs.Prelude.{⊤, flat_map}
use Rattle.std.specs.Result.{IsErrAnd}
use Rattle.outer_store.specs.Faults.{Rose, IfFailed}
use Rattle.outer_store.specs.declared.fault.StoreFault.{StoreFault}
use Rattle.outer_store.specs.declared.fault.StoreFault.TheVariants.{Failed, NoMemory}
use Rattle.rcc5_core.specs.declared.Rel.{Rel}
use Rattle.world_model.specs.Problem.{Problem}
use Rattle.cert_text.specs.declared.line.CertLine.{CertLine}
use Rattle.cert_text.specs.declared.line.CertLine.TheVariants.{Certificate, End}
use Rattle.cert_text.specs.Lines.{IdsFromOne}
use Rattle.cert_text.specs.Logs.{Told}
use Rattle.run_ends.specs.Ends.{world_line}
use Rattle.outer_store.specs.States.{SinkState}
use Rattle.listing_run.specs.declared.plan.Listed.{Listed}
use Rattle.listing_run.specs.declared.plan.ListingPlan.{ListingPlan}
use Rattle.listing_run.specs.declared.plan.Stop.{Stop}
use Rattle.listing_run.specs.Plans.{stop_place}
use Rattle.listing_run.specs.Putting.{IsPutToStop, IsPutPartly}
use Rattle.listing_run.specs.Logged.{LogMoves, IsListedIn}
use Rattle.listing_run.proofs.ListingLemmas.{grown_whole}

log_joins_cause : {L T : Type 0} (faults : L → ℕ) (quiet : L → L → Type 0) (r : Result T StoreFault) (a b c : L) → (quiet a b → quiet b c → quiet a c) → faults b ≡ faults a → quiet a b
    → IfFailed r (Rose (faults b) (faults c)) ((faults c ≡ faults b) × quiet b c) → IfFailed r (Rose (faults a) (faults c)) ((faults c ≡ faults a) × quiet a c)
log_joins_cause faults quiet (Ok v) a b c joins same still cause = (cause.0 ∙ same, joins still cause.1)
log_joins_cause faults quiet (Err Failed) a b c joins same still cause = subst (λ (n : ℕ). Rose n (faults c)) same cause
log_joins_cause faults quiet (Err NoMemory) a b c joins same still cause = (cause.0 ∙ same, joins still cause.1)

module _ {L : Type 0} {faults : L → ℕ} {steady quiet : L → L → Type 0} where
  -- a log that is left, and one that goes on twice
  pub log_rests : {T : Type 0} (v : T) (a : L) → steady a a → quiet a a → LogMoves {T = T} faults steady quiet (Ok v) a a
  log_rests v a stays still = record { cause = (refl, still); comes = stays }

  pub log_twice : {S T : Type 0} (v : S) (r : Result T StoreFault) (a b c : L) → (steady a b → steady b c → steady a c) → (quiet a b → quiet b c → quiet a c)
      → LogMoves {T = S} faults steady quiet (Ok v) a b → LogMoves {T = T} faults steady quiet r b c → LogMoves {T = T} faults steady quiet r a c
  log_twice v r a b c joins both first second = record {
    cause = log_joins_cause faults quiet r a b c both first.cause.0 first.cause.1 second.cause;
    comes = joins first.comes second.comes;
  }

  -- a line that is put, and one that is refused
  pub log_put : {T : Type 0} (v : T) (a b : L) → faults b ≡ faults a → steady a b → quiet a b → LogMoves {T = T} faults steady quiet (Ok v) a b
  log_put v a b same comes still = record { cause = (same, still); comes = comes }

  pub log_put_err : (T : Type 0) (e : StoreFault) (a b : L) → IfFailed {T = T} (Err e) (Rose (faults a) (faults b)) (faults b ≡ faults a) → steady a b → IfFailed {T = T} (Err e) ⊤ (quiet a b)
      → LogMoves {T = T} faults steady quiet (Err e) a b
  log_put_err T Failed a b cause comes still = record { cause = cause; comes = comes }
  log_put_err T NoMemory a b cause comes still = record { cause = (cause, still); comes = comes }

  pub log_ok_as : {S T : Type 0} (v : S) (u : T) (a b : L) → LogMoves {T = S} faults steady quiet (Ok v) a b → LogMoves {T = T} faults steady quiet (Ok u) a b
  log_ok_as v u a b moves = record { cause = moves.cause; comes = moves.comes }

module _ {L : Type 0} {lines : L → Told} {faults : L → ℕ} {steady quiet : L → L → Type 0} {IsTold : Option (List Rel) → Told → Type 0} where
  -- a listing that ends well
  pub listed_well : (plan : ListingPlan) (listed : Listed) (old new : SinkState) (a b : L) → IsPutToStop plan old.bytes new.bytes listed.stop listed.count → IsTold (stop_place listed.stop) (lines b)
      → new.faults ≡ old.faults → LogMoves {T = Listed} faults steady quiet (Ok listed) a b → IsListedIn lines faults steady quiet IsTold plan (Ok listed) old new a b
  listed_well plan listed old new a b put told same moves = record {
    ok = put;
    err = tt;
    told = told;
    cause = (same, moves.cause.0, moves.cause.1);
    later = omega (arith, same);
    comes = moves.comes;
  }

  pub listed_moves : (plan : ListingPlan) (listed : Listed) (old new : SinkState) (a b : L) → IsListedIn lines faults steady quiet IsTold plan (Ok listed) old new a b
      → LogMoves {T = Listed} faults steady quiet (Ok listed) a b
  listed_moves plan listed old new a b done = record { cause = (done.cause.1, done.cause.2); comes = done.comes }

  -- a refusal that is handed on
  pub listed_as : (e : StoreFault) (r : Result Listed StoreFault) (plan : ListingPlan) (old new : SinkState) (a b : L) → IsErrAnd r (λ f. f ≡ e)
      → IsListedIn lines faults steady quiet IsTold plan (Err e) old new a b → IsListedIn lines faults steady quiet IsTold plan r old new a b
  listed_as e (Ok v) plan old new a b is listed = absurd is
  listed_as e (Err f) plan old new a b is listed = subst (λ f. IsListedIn lines faults steady quiet IsTold plan (Err f) old new a b) (sym is) listed

  -- one whose next step or line is refused by the log, or finds no memory
  log_refused_by : (T : Type 0) (e : StoreFault) (plan : ListingPlan) (old new : SinkState) (a b : L) → IsPutPartly plan old.bytes new.bytes → new.faults ≡ old.faults
      → LogMoves {T = T} faults steady quiet (Err e) a b → IsListedIn lines faults steady quiet IsTold plan (Err e) old new a b
  log_refused_by T Failed plan old new a b part same moves = record {
    ok = tt;
    err = part;
    told = tt;
    cause = inr (moves.cause, same);
    later = omega (arith, same);
    comes = moves.comes;
  }
  log_refused_by T NoMemory plan old new a b part same moves = record {
    ok = tt;
    err = part;
    told = tt;
    cause = (same, moves.cause.0, moves.cause.1);
    later = omega (arith, same);
    comes = moves.comes;
  }

  pub log_refused : (T : Type 0) (e : StoreFault) (r : Result Listed StoreFault) (plan : ListingPlan) (old new : SinkState) (a b : L) → IsErrAnd r (λ f. f ≡ e)
      → IsPutPartly plan old.bytes new.bytes → new.faults ≡ old.faults → LogMoves {T = T} faults steady quiet (Err e) a b → IsListedIn lines faults steady quiet IsTold plan r old new a b
  log_refused T e (Ok v) plan old new a b is part same moves = absurd is
  log_refused T e (Err f) plan old new a b is part same moves =
      subst (λ f. IsListedIn lines faults steady quiet IsTold plan (Err f) old new a b) (sym is) (log_refused_by T e plan old new a b part same moves)

  -- one whose put is refused, or finds no memory
  put_refused_by : (S T : Type 0) (v : T) (e : StoreFault) (plan : ListingPlan) (old new : SinkState) (a b : L) → IsPutPartly plan old.bytes new.bytes
      → IfFailed {T = S} (Err e) (Rose old.faults new.faults) (new.faults ≡ old.faults) → LogMoves {T = T} faults steady quiet (Ok v) a b
      → old.faults ≤ new.faults → IsListedIn lines faults steady quiet IsTold plan (Err e) old new a b
  put_refused_by S T v Failed plan old new a b part cause moves later = record {
    ok = tt;
    err = part;
    told = tt;
    cause = inl (cause, moves.cause.1);
    later = later;
    comes = moves.comes;
  }
  put_refused_by S T v NoMemory plan old new a b part cause moves later = record {
    ok = tt;
    err = part;
    told = tt;
    cause = (cause, moves.cause.0, moves.cause.1);
    later = later;
    comes = moves.comes;
  }

  pub put_refused : (S T : Type 0) (v : T) (e : StoreFault) (r : Result Listed StoreFault) (plan : ListingPlan) (old new : SinkState) (a b : L) → IsErrAnd r (λ f. f ≡ e)
      → IsPutPartly plan old.bytes new.bytes → IfFailed {T = S} (Err e) (Rose old.faults new.faults) (new.faults ≡ old.faults) → LogMoves {T = T} faults steady quiet (Ok v) a b
      → old.faults ≤ new.faults → IsListedIn lines faults steady quiet IsTold plan r old new a b
  put_refused S T v e (Ok x) plan old new a b is part cause moves later = absurd is
  put_refused S T v e (Err f) plan old new a b is part cause moves later =
      subst (λ f. IsListedIn lines faults steady quiet IsTold plan (Err f) old new a b) (sym is) (put_refused_by S T v e plan old new a b part cause moves later)

  -- one for which memory is wanting before its next step
  pub starved : (T : Type 0) (v : T) (r : Result Listed StoreFault) (plan : ListingPlan) (old new : SinkState) (a b : L) → IsErrAnd r (λ f. f ≡ NoMemory) → IsPutPartly plan old.bytes new.bytes
      → new.faults ≡ old.faults → LogMoves {T = T} faults steady quiet (Ok v) a b → IsListedIn lines faults steady quiet IsTold plan r old new a b
  starved T v (Ok x) plan old new a b is part same moves = absurd is
  starved T v (Err f) plan old new a b is part same moves =
      subst (λ f. IsListedIn lines faults steady quiet IsTold plan (Err f) old new a b) (sym is) (put_refused_by T T v NoMemory plan old new a b part same moves (omega (arith, same)))

  -- one that is refused behind a first line
  refused_behind_by : (T : Type 0) (v : T) (IsBefore : Option (List Rel) → Told → Type 0) (e : StoreFault) (plan : ListingPlan) (old new : SinkState) (a b c : L)
      → (steady a b → steady b c → steady a c) → (quiet a b → quiet b c → quiet a c) → LogMoves {T = T} faults steady quiet (Ok v) a b
      → IsListedIn lines faults steady quiet IsBefore plan (Err e) old new b c → IsListedIn lines faults steady quiet IsTold plan (Err e) old new a c
  refused_behind_by T v IsBefore Failed plan old new a b c joins both moves listed = record {
    ok = tt;
    err = listed.err;
    told = tt;
    cause = ⊎_elim
        (λ put. inl (put.0, both moves.cause.1 put.1))
        (λ write. inr (subst (λ (n : ℕ). Rose n (faults c)) moves.cause.0 write.0, write.1))
        listed.cause;
    later = listed.later;
    comes = joins moves.comes listed.comes;
  }
  refused_behind_by T v IsBefore NoMemory plan old new a b c joins both moves listed = record {
    ok = tt;
    err = listed.err;
    told = tt;
    cause = (listed.cause.0, listed.cause.1 ∙ moves.cause.0, both moves.cause.1 listed.cause.2);
    later = listed.later;
    comes = joins moves.comes listed.comes;
  }

  pub refused_behind : (T : Type 0) (v : T) (IsBefore : Option (List Rel) → Told → Type 0) (e : StoreFault) (r : Result Listed StoreFault) (plan : ListingPlan) (old new : SinkState) (a b c : L)
      → IsErrAnd r (λ f. f ≡ e) → (steady a b → steady b c → steady a c) → (quiet a b → quiet b c → quiet a c) → LogMoves {T = T} faults steady quiet (Ok v) a b
      → IsListedIn lines faults steady quiet IsBefore plan (Err e) old new b c → IsListedIn lines faults steady quiet IsTold plan r old new a c
  refused_behind T v IsBefore e (Ok x) plan old new a b c is joins both moves listed = absurd is
  refused_behind T v IsBefore e (Err f) plan old new a b c is joins both moves listed =
      subst (λ f. IsListedIn lines faults steady quiet IsTold plan (Err f) old new a c) (sym is) (refused_behind_by T v IsBefore e plan old new a b c joins both moves listed)

-- a listing that is put to its stop is put in part
pub partly_whole : (plan : ListingPlan) (old new : Option (List ℕ)) (stop : Stop) (count : ℕ) → IsPutToStop plan old new stop count → IsPutPartly plan old new
partly_whole plan old new stop count put = record {
  stop = stop;
  worlds = put.worlds;
  stop_is = put.stop_is;
  exactly = put.exactly;
  part = grown_whole old new (flat_map world_line put.worlds) put.put;
}

-- the first and the last line have no ids
pub ids_of_first : (line : CertLine) (p : Problem) (from : List Rel) → line ≡ Certificate p.switches from → IdsFromOne line
ids_of_first line p from e = subst IdsFromOne (sym e) tt

pub ids_of_last : (line : CertLine) (to : Option (List Rel)) → line ≡ End to → IdsFromOne line
ids_of_last line to e = subst IdsFromOne (sym e) tt
