-- The steps of a check.
use Rattle.std.specs.Prelude.{◌≡◌, ℕ, List, Option, Result, Ok, ◌⊎◌}
use Rattle.outer_store.specs.Bytes.{GrownInPart, added}
use Rattle.outer_store.specs.Contents.{Contents}
use Rattle.outer_store.specs.Faults.{Rose}
use Rattle.outer_store.specs.declared.fault.StoreFault.{StoreFault}
use Rattle.world_model.specs.declared.Switches.{Switches}
use Rattle.world_model.specs.Problem.{Problem}
use Rattle.cleantax_text.specs.Reading.{text_result}
use Rattle.cert_reader.specs.Bytes.{MayHold, ForSome}
use Rattle.cert_rules.specs.Files.{Verdict, Accepts}
use Rattle.cert_check.specs.declared.fault.CheckFault.{CheckFault}
use Rattle.cert_check.specs.declared.fault.CheckFault.TheVariants as fault
use Rattle.run_ends.specs.declared.Status.{Status}
use Rattle.run_ends.specs.declared.Status.TheVariants.{Done, ReadFault, RefusedCert, Rejected, NoMemory}
use Rattle.run_ends.specs.Ends.{end_line}
use Rattle.outer_store.specs.States.{StoreState, SinkState, IsQuiet}
use Rattle.run_ends.specs.Runs.{Leaves, Answered, ending_of}
use Rattle.check_run.specs.Checking.{verdict_text, IsCertAnswer}
use Rattle.cert_rules.specs.Parts.Certs.{cert_answer}

-- how a run ends by why a certificate is not accepted
abbrev pub status_of : CheckFault → Status
status_of (fault.Text line kind) = RefusedCert line kind
status_of (fault.Rejected line kind) = Rejected line kind
status_of fault.ReadFault = ReadFault
status_of fault.NoMemory = NoMemory

-- a certificate is accepted with this verdict, by bytes that there may be under its name
abbrev pub IsAccepted : Problem → Option (List ℕ) → Verdict → Type 0
IsAccepted p told verdict = ForSome (MayHold told) (λ bytes. cert_answer p bytes ≡ Accepts verdict)

-- a last line alone is the answer to a certificate, and no call failed
pub record IsRefusedCert (p : Problem) (cert : List ℕ) (status : Status) (one other : StoreState) : Type 0 where
  pub answer : IsCertAnswer p (one.held cert) status (end_line status)
  pub answered : ending_of status ≡ Answered
  pub quiet : IsQuiet one other

-- why a certificate is not accepted: it is refused, a read of it failed, or memory was wanting
abbrev pub IsNotAccepted : Problem → List ℕ → Status → StoreState → StoreState → Type 0
IsNotAccepted p cert status one other =
    IsRefusedCert p cert status one other
    ⊎ (((status ≡ ReadFault) × Rose (one.reads cert) (other.reads cert)) ⊎ ((status ≡ NoMemory) × IsQuiet one other))

-- the verdict on the certificate under one name for the problem under another
pub record IsVerdictOf (input cert : List ℕ) (switches : Switches) (held : Contents) (verdict : Verdict) : Type 0 where
  pub bytes : List ℕ
  pub told : MayHold (held input) bytes
  pub problem : Problem
  pub is : text_result bytes switches ≡ Ok problem
  pub accepted : IsAccepted problem (held cert) verdict

-- a verdict is put, or a first part of it
abbrev pub IsPutAnswer : Result Status StoreFault → Verdict → SinkState → SinkState → Type 0
IsPutAnswer result verdict old new =
    Leaves result (λ status. (status ≡ Done) × (new.bytes ≡ added old.bytes (verdict_text verdict))) (GrownInPart old.bytes new.bytes (verdict_text verdict)) old new
