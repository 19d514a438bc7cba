-- What calls leave of a log, and of an asker.
use Rattle.std.proofs.Common.{◌≡◌, ℕ, ◌≤◌, Bool, inl, inr, [], ◌∷◌, ◌++◌, map, Some, None, Result, Ok, Err, OnOk, OnErr, refl, sym, ap, ◌∙◌, subst, arith, append_assoc, append-nil}
use Rattle.std.specs.Prelude.{⊤}
use Rattle.std.specs.Result.{IsErrAnd}
use Rattle.outer_store.specs.Faults.{Rose, IfFailed}
use Rattle.outer_store.specs.declared.fault.StoreFault.{StoreFault}
use Rattle.outer_store.specs.declared.fault.StoreFault.TheVariants.{Failed}
use Rattle.outer_store.specs.declared.fault.StoreFault.TheVariants as store
use Rattle.lits_core.proofs.LiteralSets.{same-line_fault, same-next_state, same-truth}
use Rattle.point_query.specs.Asking.{AskerState, AskerGoes}
use Rattle.point_query.proofs.Querying.{asker_goes_nowhere, goes_chain}
use Rattle.cert_text.specs.declared.line.CertLine.{CertLine}
use Rattle.cert_text.specs.declared.line.CertLine.TheVariants.{Proof}
use Rattle.cert_text.specs.Logs.{Told, IsToldWith}
use Rattle.search_log.specs.declared.fault.StepFault.{StepFault}
use Rattle.search_log.specs.declared.fault.StepFault.TheVariants.{NoMemory, LogFailed}
use Rattle.search_log.specs.Logging.{step_fault, AddsLines, AreToldWith, IfLogFailed, LogGoes, IsFlushed, IsSameButLines}

-- an asker that is left as it is, and one that goes on twice
pub asker_stays : (one : AskerState) → AskerGoes one one
asker_stays one = asker_goes_nowhere one

pub asker_joins : (one two three : AskerState) → AskerGoes one two → AskerGoes two three → AskerGoes one three
asker_joins one two three first second = record {
  shape = second.shape ∙ first.shape;
  solver = goes_chain (record { faults = same-line_fault; next = same-next_state; truth = same-truth }) one.solver two.solver three.solver first.solver second.solver;
}

-- more lines and more again
adds_joins : (a b c : Told) → AddsLines a b → AddsLines b c → AddsLines a c
adds_joins None b c first second = tt
adds_joins (Some lines) b c first second =
    let there : AddsLines (Some (lines ++ first.0)) c = subst (λ b. AddsLines b c) first.1 second in
    (first.0 ++ there.0, there.1 ∙ ap Some (append_assoc lines first.0 there.0))

adds_none : (a : Told) → AddsLines a a
adds_none None = tt
adds_none (Some lines) = ([], ap Some (sym (append-nil lines)))

pub adds_one : (a b : Told) (line : CertLine) → IsToldWith a line b → AddsLines a b
adds_one None b line told = tt
adds_one (Some lines) b line told = (line ∷ [], told)

-- faults, as answers of another type
fault_as : (S T : Type 0) (e : StepFault) (A B : Type 0) → IfLogFailed {T = S} (Err e) A B → IfLogFailed {T = T} (Err e) A B
fault_as S T NoMemory A B h = h
fault_as S T LogFailed A B h = h

fault_same : (S T : Type 0) (e f : StepFault) (A B : Type 0) → f ≡ e → IfLogFailed {T = S} (Err e) A B → IfLogFailed {T = T} (Err f) A B
fault_same S T e f A B is h = subst (λ f. IfLogFailed {T = T} (Err f) A B) (sym is) (fault_as S T e A B h)

fault_memory : (T : Type 0) (f : StepFault) (A B : Type 0) → f ≡ NoMemory → B → IfLogFailed {T = T} (Err f) A B
fault_memory T f A B is b = subst (λ f. IfLogFailed {T = T} (Err f) A B) (sym is) b

-- a fault of the log as one of a step
fault_of : (S T : Type 0) (e : StoreFault) (f : StepFault) (A B : Type 0) → f ≡ step_fault e → IfFailed {T = S} (Err e) A B → IfLogFailed {T = T} (Err f) A B
fault_of S T Failed f A B is h = subst (λ f. IfLogFailed {T = T} (Err f) A B) (sym is) h
fault_of S T store.NoMemory f A B is h = subst (λ f. IfLogFailed {T = T} (Err f) A B) (sym is) h

on_ok_adds : {T : Type 0} (r : Result T StepFault) (a b c : Told) → AddsLines a b → OnOk r (AddsLines b c) → OnOk r (AddsLines a c)
on_ok_adds (Ok v) a b c first second = adds_joins a b c first second
on_ok_adds (Err e) a b c first second = tt

fault_joins : {T : Type 0} (r : Result T StepFault) (a b c : ℕ) → b ≡ a → IfLogFailed r (Rose b c) (c ≡ b) → IfLogFailed r (Rose a c) (c ≡ a)
fault_joins r a b c first second = subst (λ a. IfLogFailed r (Rose a c) (c ≡ a)) first second

quiet_joined : {T : Type 0} (r : Result T StepFault) (A B : Type 0) → (A → B) → IfLogFailed r ⊤ A → IfLogFailed r ⊤ B
quiet_joined (Ok v) A B by h = by h
quiet_joined (Err LogFailed) A B by h = tt
quiet_joined (Err NoMemory) A B by h = by h

-- a log that is left as it is, and one that two calls go on with
module _ {L : Type 0} {drops : L → Bool} {lines : L → Told} {faults : L → ℕ} {steady quiet : L → L → Type 0} where
  pub log_stays_ok : {T : Type 0} (v : T) (a : L) → steady a a → quiet a a → LogGoes {T = T} drops lines faults steady quiet (Ok v) a a
  log_stays_ok v a stays still = record { told = adds_none (lines a); fault = refl; later = omega arith; comes = stays; still = still; as_before = refl }

  -- a call that adds no line
  pub log_same_ok : {T : Type 0} (v : T) (a b : L) → lines b ≡ lines a → faults b ≡ faults a → steady a b → quiet a b → drops b ≡ drops a → LogGoes {T = T} drops lines faults steady quiet (Ok v) a b
  log_same_ok v a b same fault comes still as_before =
      record { told = subst (AddsLines (lines a)) (sym same) (adds_none (lines a)); fault = fault; later = omega (arith, fault); comes = comes; still = still; as_before = as_before }

  pub log_memory : {T : Type 0} (r : Result T StepFault) (a : L) → steady a a → quiet a a → IsErrAnd r (λ f. f ≡ NoMemory) → LogGoes {T = T} drops lines faults steady quiet r a a
  log_memory {T} (Ok v) a stays still h = absurd h
  log_memory {T} (Err f) a stays still h =
      record {
        told = tt;
        fault = fault_memory T f (Rose (faults a) (faults a)) (faults a ≡ faults a) h refl;
        later = omega arith;
        comes = stays;
        still = fault_memory T f ⊤ (quiet a a) h still;
        as_before = refl;
      }

  pub log_joins : {S T : Type 0} (v : S) (r : Result T StepFault) (a b c : L) → (steady a b → steady b c → steady a c) → (quiet a b → quiet b c → quiet a c) →
      LogGoes {T = S} drops lines faults steady quiet (Ok v) a b → LogGoes {T = T} drops lines faults steady quiet r b c → LogGoes {T = T} drops lines faults steady quiet r a c
  log_joins v r a b c joins both first second = record {
    told = on_ok_adds r (lines a) (lines b) (lines c) first.told second.told;
    fault = fault_joins r (faults a) (faults b) (faults c) first.fault second.fault;
    later = omega (arith, first.later, second.later);
    comes = joins first.comes second.comes;
    still = quiet_joined r (quiet b c) (quiet a c) (λ later. both first.still later) second.still;
    as_before = second.as_before ∙ first.as_before;
  }

  -- with an answer of another type
  pub log_ok_as : {S T : Type 0} (v : S) (u : T) (a b : L) → LogGoes {T = S} drops lines faults steady quiet (Ok v) a b → LogGoes {T = T} drops lines faults steady quiet (Ok u) a b
  log_ok_as v u a b goes = record { told = goes.told; fault = goes.fault; later = goes.later; comes = goes.comes; still = goes.still; as_before = goes.as_before }

  pub log_then_memory : {S T : Type 0} (v : S) (r : Result T StepFault) (a b : L) → IsErrAnd r (λ f. f ≡ NoMemory) → LogGoes {T = S} drops lines faults steady quiet (Ok v) a b →
      LogGoes {T = T} drops lines faults steady quiet r a b
  log_then_memory {S} {T} v (Ok u) a b h goes = absurd h
  log_then_memory {S} {T} v (Err f) a b h goes = record {
    told = tt;
    fault = fault_memory T f (Rose (faults a) (faults b)) (faults b ≡ faults a) h goes.fault;
    later = goes.later;
    comes = goes.comes;
    still = fault_memory T f ⊤ (quiet a b) h goes.still;
    as_before = goes.as_before;
  }

  pub log_as : {S T : Type 0} (e : StepFault) (r : Result T StepFault) (a b : L) → IsErrAnd r (λ f. f ≡ e) → LogGoes {T = S} drops lines faults steady quiet (Err e) a b →
      LogGoes {T = T} drops lines faults steady quiet r a b
  log_as {S} {T} e (Ok u) a b h goes = absurd h
  log_as {S} {T} e (Err f) a b h goes = record {
    told = tt;
    fault = fault_same S T e f (Rose (faults a) (faults b)) (faults b ≡ faults a) h goes.fault;
    later = goes.later;
    comes = goes.comes;
    still = fault_same S T e f ⊤ (quiet a b) h goes.still;
    as_before = goes.as_before;
  }

  -- what a log answers, as a step
  pub log_put_err : (S T : Type 0) (e : StoreFault) (r : Result T StepFault) (a b : L) → IsErrAnd r (λ f. f ≡ step_fault e) → IfFailed {T = S} (Err e) (Rose (faults a) (faults b)) (faults b ≡ faults a) →
      faults a ≤ faults b → steady a b → IfFailed {T = S} (Err e) ⊤ (quiet a b) → drops b ≡ drops a → LogGoes {T = T} drops lines faults steady quiet r a b
  log_put_err S T e (Ok u) a b h cause later comes still as_before = absurd h
  log_put_err S T e (Err f) a b h cause later comes still as_before = record {
    told = tt;
    fault = fault_of S T e f (Rose (faults a) (faults b)) (faults b ≡ faults a) h cause;
    later = later;
    comes = comes;
    still = fault_of S T e f ⊤ (quiet a b) h still;
    as_before = as_before;
  }

-- what is so anyhow is so at an error
pub on_err : {T E P : Type 0} (r : Result T E) → P → OnErr r P
on_err (Ok v) h = tt
on_err (Err f) h = h

-- an asker whose lines were dropped, or that is as it was
pub cleared_same : (old new : AskerState) → new ≡ record old { solver = record old.solver { waiting = [] } } → IsSameButLines old new
cleared_same old new is = record {
  shape = ap (λ (s : AskerState). s.shape) is;
  state = ap (λ (s : AskerState). s.solver.state) is;
  idle = ap (λ (s : AskerState). s.solver.idle) is;
}

pub unchanged_same : (one : AskerState) → IsSameButLines one one
unchanged_same one = record { shape = refl; state = refl; idle = refl }

-- all the waiting lines are put, or none that is told
pub flushed_by_put : {T : Type 0} (r : Result T StepFault) (old new : Told) (one other : AskerState) → other.solver.waiting ≡ [] → OnOk r (AreToldWith old (map Proof one.solver.waiting) new) →
    OnErr r (new ≡ None) → IsFlushed r old new one other
flushed_by_put (Ok v) old new one other none told err = record { ok = record { none_waits = none; told = told }; err = tt }
flushed_by_put (Err e) old new one other none told err = record { ok = tt; err = inl err }

-- the lines that nobody is told of are dropped
pub flushed_untold : {T : Type 0} (v : T) (told : Told) (one other : AskerState) → told ≡ None → other.solver.waiting ≡ [] → IsFlushed {T = T} (Ok v) told told one other
flushed_untold v told one other untold none = record {
  ok = record { none_waits = none; told = subst (λ old. AreToldWith old (map Proof one.solver.waiting) told) (sym untold) tt };
  err = tt;
}

-- nothing is done for want of memory
pub flushed_not : {T : Type 0} (Q : StepFault → Type 0) (r : Result T StepFault) (told : Told) (one : AskerState) → IsErrAnd r Q → IsFlushed r told told one one
flushed_not Q (Ok v) told one h = absurd h
flushed_not Q (Err f) told one h = record { ok = tt; err = inr (record { told = refl; waits = refl }) }
