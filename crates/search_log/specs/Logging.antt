-- What is put in a log, and what a call leaves of it.
use Rattle.std.specs.Prelude.{◌≡◌, ℕ, ◌≤◌, Bool, List, [], ◌++◌, map, Option, Some, None, IfSome, Result, Ok, Err, OnOk, OnErr, ◌⊎◌, ⊤}
use Rattle.outer_store.specs.Faults.{Rose}
use Rattle.outer_store.specs.declared.fault.StoreFault.{StoreFault}
use Rattle.outer_store.specs.declared.fault.StoreFault.TheVariants as store
use Rattle.rcc5_core.specs.declared.Rel.{Rel}
use Rattle.point_query.specs.Asking.{AskerState}
use Rattle.cert_text.specs.declared.line.CertLine.{CertLine}
use Rattle.cert_text.specs.declared.line.CertLine.TheVariants.{Proof}
use Rattle.cert_text.specs.Logs.{Told}
use Rattle.search_log.specs.declared.fault.StepFault.{StepFault}
use Rattle.search_log.specs.declared.fault.StepFault.TheVariants.{NoMemory, LogFailed}

-- a fault of the log as one of a step
abbrev pub step_fault : StoreFault → StepFault
step_fault store.Failed = LogFailed
step_fault store.NoMemory = NoMemory

-- a fault of a step as one of the store that the log is in
abbrev pub store_fault : StepFault → StoreFault
store_fault LogFailed = store.Failed
store_fault NoMemory = store.NoMemory

-- the told lines are told still, with more behind them
abbrev pub AddsLines : Told → Told → Type 0
AddsLines old new = IfSome old (λ lines. (more : List CertLine) × (new ≡ Some (lines ++ more)))

-- just these are told behind the told lines
abbrev pub AreToldWith : Told → List CertLine → Told → Type 0
AreToldWith old more new = IfSome old (λ lines. new ≡ Some (lines ++ more))

-- one fact where the log failed, and another at every other answer
abbrev pub IfLogFailed : {T : Type 0} → Result T StepFault → Type 0 → Type 0 → Type 0
IfLogFailed (Ok value) failed other = other
IfLogFailed (Err LogFailed) failed other = failed
IfLogFailed (Err NoMemory) failed other = other

-- what a call leaves of a log: after Ok the told lines with more behind them, a failure only where the count of faults rose, and at any
-- other answer no count that moved
pub record LogGoes {L T : Type 0} (drops : L → Bool) (lines : L → Told) (faults : L → ℕ) (steady quiet : L → L → Type 0) (result : Result T StepFault) (old new : L) : Type 0 where
  pub told : OnOk result (AddsLines (lines old) (lines new))
  pub fault : IfLogFailed result (Rose (faults old) (faults new)) (faults new ≡ faults old)
  pub later : faults old ≤ faults new
  pub comes : steady old new
  pub still : IfLogFailed result ⊤ (quiet old new)
  pub as_before : drops new ≡ drops old

-- an asker as it was, but for the lines that wait
pub record IsSameButLines (old new : AskerState) : Type 0 where
  pub shape : new.shape ≡ old.shape
  pub state : new.solver.state ≡ old.solver.state
  pub idle : new.solver.idle ≡ old.solver.idle

-- no line waits, and where lines were told, those that waited are told behind them
pub record AllTold (old new : Told) (one other : AskerState) : Type 0 where
  pub none_waits : other.solver.waiting ≡ []
  pub told : AreToldWith old (map Proof one.solver.waiting) new

-- what is told and what waits is as it was
pub record NoneTold (old new : Told) (one other : AskerState) : Type 0 where
  pub told : new ≡ old
  pub waits : other.solver.waiting ≡ one.solver.waiting

-- the waiting lines are all told after Ok; else none is and all wait, or nothing is told any more
pub record IsFlushed {T : Type 0} (result : Result T StepFault) (old new : Told) (one other : AskerState) : Type 0 where
  pub ok : OnOk result (AllTold old new one other)
  pub err : OnErr result ((new ≡ None) ⊎ NoneTold old new one other)

-- the next node after an answer Ok, and else the same
abbrev pub next_if : {T : Type 0} → Result T StepFault → Option (List Rel) → Option (List Rel) → Option (List Rel)
next_if (Ok value) next at = next
next_if (Err fault) next at = at
