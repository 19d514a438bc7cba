-- What calls leave of a source.
use Rattle.std.proofs.Common.{◌≡◌, ℕ, Result, Ok, Err, refl, sym, subst, arith}
use Rattle.std.specs.Prelude.{⊤}
use Rattle.std.specs.Result.{IsErrAnd}
use Rattle.outer_store.specs.Faults.{Rose}
use Rattle.world_model.specs.Problem.{Problem}
use Rattle.cert_text.specs.declared.line.CertLine.{CertLine}
use Rattle.cert_reader.specs.declared.fault.CertTextKind.{CertTextKind}
use Rattle.cert_rules.specs.declared.RejectKind.{RejectKind}
use Rattle.cert_check.specs.declared.fault.CheckFault.{CheckFault}
use Rattle.cert_check.specs.declared.fault.CheckFault.TheVariants.{Text, Rejected, ReadFault, NoMemory}
use Rattle.cert_check.specs.Answers.{IfReadFault, SourceGoes}
use Rattle.cert_check.specs.Whole.{Starts}

-- what the first line answers is no failed read
pub starts_unread : (p : Problem) (first : CertLine) (fault : CheckFault) → Starts p first (Err fault) → fault ≡ ReadFault → ⊥
starts_unread p first fault starts is = subst (λ (fault : CheckFault). Starts p first (Err fault)) is starts

-- a fact at a fault, at the same fault as an answer of another type, and at one that is no failed read
fault_is : (T : Type 0) (e f : CheckFault) (A B : Type 0) → e ≡ f → IfReadFault {T = T} (Err f) A B → IfReadFault {T = T} (Err e) A B
fault_is T e f A B is h = subst (λ e. IfReadFault {T = T} (Err e) A B) (sym is) h

fault_as : (S T : Type 0) (e : CheckFault) (A B : Type 0) → IfReadFault {T = S} (Err e) A B → IfReadFault {T = T} (Err e) A B
fault_as S T (Text line kind) A B h = h
fault_as S T (Rejected line kind) A B h = h
fault_as S T ReadFault A B h = h
fault_as S T NoMemory A B h = h

fault_other : (T : Type 0) (e : CheckFault) (A B : Type 0) → (e ≡ ReadFault → ⊥) → B → IfReadFault {T = T} (Err e) A B
fault_other T (Text line kind) A B unread b = b
fault_other T (Rejected line kind) A B unread b = b
fault_other T ReadFault A B unread b = absurd (unread refl)
fault_other T NoMemory A B unread b = b

-- a fact at an answer that is no failed read, and facts of two calls
answer_other : {T : Type 0} (r : Result T CheckFault) (A B : Type 0) → (r ≡ Err ReadFault → ⊥) → B → IfReadFault r A B
answer_other (Ok v) A B unread b = b
answer_other (Err (Text line kind)) A B unread b = b
answer_other (Err (Rejected line kind)) A B unread b = b
answer_other (Err ReadFault) A B unread b = absurd (unread refl)
answer_other (Err NoMemory) A B unread b = b

fault_joins : {T : Type 0} (r : Result T CheckFault) (a b c : ℕ) → b ≡ a → IfReadFault r (Rose b c) (c ≡ b) → IfReadFault r (Rose a c) (c ≡ a)
fault_joins r a b c first second = subst (λ a. IfReadFault r (Rose a c) (c ≡ a)) first second

quiet_joined : {T : Type 0} (r : Result T CheckFault) (A B : Type 0) → (A → B) → IfReadFault r ⊤ A → IfReadFault r ⊤ B
quiet_joined (Ok v) A B by h = by h
quiet_joined (Err (Text line kind)) A B by h = by h
quiet_joined (Err (Rejected line kind)) A B by h = by h
quiet_joined (Err ReadFault) A B by h = tt
quiet_joined (Err NoMemory) A B by h = by h

-- a source that is left as it is, and one that two calls go on with
module _ {S : Type 0} {faults : S → ℕ} {steady quiet : S → S → Type 0} where
  pub source_memory : {T : Type 0} (r : Result T CheckFault) (a : S) → steady a a → quiet a a → IsErrAnd r (λ f. f ≡ NoMemory) → SourceGoes {T = T} faults steady quiet r a a
  source_memory {T} (Ok v) a stays still h = absurd h
  source_memory {T} (Err f) a stays still h = record {
    fault = fault_is T f NoMemory (Rose (faults a) (faults a)) (faults a ≡ faults a) h refl;
    later = omega arith;
    comes = stays;
    still = fault_is T f NoMemory ⊤ (quiet a a) h still;
  }

  pub source_stays : {T : Type 0} (e : CheckFault) (a : S) → steady a a → quiet a a → (e ≡ ReadFault → ⊥) → SourceGoes {T = T} faults steady quiet (Err e) a a
  source_stays {T} e a stays still unread = record {
    fault = fault_other T e (Rose (faults a) (faults a)) (faults a ≡ faults a) unread refl;
    later = omega arith;
    comes = stays;
    still = fault_other T e ⊤ (quiet a a) unread still;
  }

  pub source_joins : {A T : Type 0} (v : A) (r : Result T CheckFault) (a b c : S) → (steady a b → steady b c → steady a c) → (quiet a b → quiet b c → quiet a c) →
      SourceGoes {T = A} faults steady quiet (Ok v) a b → SourceGoes {T = T} faults steady quiet r b c → SourceGoes {T = T} faults steady quiet r a c
  source_joins v r a b c joins both first second = record {
    fault = fault_joins r (faults a) (faults b) (faults c) first.fault second.fault;
    later = omega (arith, first.later, second.later);
    comes = joins first.comes second.comes;
    still = quiet_joined r (quiet b c) (quiet a c) (λ later. both first.still later) second.still;
  }

  -- with an answer of another type
  pub source_ok_as : {A T : Type 0} (v : A) (u : T) (a b : S) → SourceGoes {T = A} faults steady quiet (Ok v) a b → SourceGoes {T = T} faults steady quiet (Ok u) a b
  source_ok_as v u a b goes = record { fault = goes.fault; later = goes.later; comes = goes.comes; still = goes.still }

  pub source_as : {A T : Type 0} (e : CheckFault) (a b : S) → SourceGoes {T = A} faults steady quiet (Err e) a b → SourceGoes {T = T} faults steady quiet (Err e) a b
  source_as {A} {T} e a b goes = record {
    fault = fault_as A T e (Rose (faults a) (faults b)) (faults b ≡ faults a) goes.fault;
    later = goes.later;
    comes = goes.comes;
    still = fault_as A T e ⊤ (quiet a b) goes.still;
  }

  -- and with one that is no failed read
  pub source_then : {A T : Type 0} (v : A) (r : Result T CheckFault) (a b : S) → (r ≡ Err ReadFault → ⊥) → SourceGoes {T = A} faults steady quiet (Ok v) a b → SourceGoes {T = T} faults steady quiet r a b
  source_then v r a b unread goes = record {
    fault = answer_other r (Rose (faults a) (faults b)) (faults b ≡ faults a) unread goes.fault;
    later = goes.later;
    comes = goes.comes;
    still = answer_other r ⊤ (quiet a b) unread goes.still;
  }

  pub source_then_text : {A T : Type 0} (v : A) (e : CheckFault) (line : ℕ) (kind : CertTextKind) (a b : S) → e ≡ Text line kind → SourceGoes {T = A} faults steady quiet (Ok v) a b →
      SourceGoes {T = T} faults steady quiet (Err e) a b
  source_then_text {A} {T} v e line kind a b is goes = record {
    fault = fault_is T e (Text line kind) (Rose (faults a) (faults b)) (faults b ≡ faults a) is goes.fault;
    later = goes.later;
    comes = goes.comes;
    still = fault_is T e (Text line kind) ⊤ (quiet a b) is goes.still;
  }

  pub source_then_rejected : {A T : Type 0} (v : A) (e : CheckFault) (line : ℕ) (kind : RejectKind) (a b : S) → e ≡ Rejected line kind → SourceGoes {T = A} faults steady quiet (Ok v) a b →
      SourceGoes {T = T} faults steady quiet (Err e) a b
  source_then_rejected {A} {T} v e line kind a b is goes = record {
    fault = fault_is T e (Rejected line kind) (Rose (faults a) (faults b)) (faults b ≡ faults a) is goes.fault;
    later = goes.later;
    comes = goes.comes;
    still = fault_is T e (Rejected line kind) ⊤ (quiet a b) is goes.still;
  }
