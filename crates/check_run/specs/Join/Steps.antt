-- The steps of a join.
use Rattle.std.specs.Prelude.{◌≡◌, ◌⊎◌, ℕ, List, [], length, Result, Ok}
use Rattle.outer_store.specs.Bytes.{GrownInPart, added}
use Rattle.outer_store.specs.Contents.{Contents}
use Rattle.outer_store.specs.States.{StoreState, SinkState, IsQuiet}
use Rattle.outer_store.specs.declared.fault.StoreFault.{StoreFault}
use Rattle.rcc5_core.specs.declared.Rel.{Rel}
use Rattle.world_model.specs.Problem.{Problem}
use Rattle.cleantax_text.specs.Reading.{text_result}
use Rattle.cert_reader.specs.Bytes.{MayHold, ForSome}
use Rattle.part_join.specs.Joining.{IsJoin, MayHoldAll, SomeRose}
use Rattle.part_join.specs.declared.fault.JoinFault.{JoinFault}
use Rattle.part_join.specs.declared.fault.JoinFault.TheVariants as fault
use Rattle.command_line.specs.declared.request.JoinArgs.{JoinArgs}
use Rattle.run_ends.specs.declared.Status.{Status}
use Rattle.run_ends.specs.declared.Status.TheVariants.{ReadFault, PartRefused, Gap, NoMemory}
use Rattle.run_ends.specs.Ends.{end_line}
use Rattle.run_ends.specs.Runs.{Leaves, Answered, ending_of}
use Rattle.check_run.specs.Join.Answering.{joined_text, joined_status, IsCertsAnswer}

-- how a run ends by why parts are not joined
abbrev pub status_of : JoinFault → Status
status_of (fault.PartRefused number line kind) = PartRefused number line kind
status_of (fault.Gap from to) = Gap from to
status_of fault.ReadFault = ReadFault
status_of fault.NoMemory = NoMemory

-- these worlds are joined, of files that there may be under the names
abbrev pub AreJoined : Problem → List (List ℕ) → Contents → List (List Rel) → Type 0
AreJoined p certs held worlds = ForSome (MayHoldAll held certs) (λ files. IsJoin p files (Ok worlds))

-- a last line alone is the answer to the certificates, and no call failed
pub record IsRefusedJoin (p : Problem) (certs : List (List ℕ)) (status : Status) (one other : StoreState) : Type 0 where
  pub answer : IsCertsAnswer p certs one.held status (end_line status) []
  pub answered : ending_of status ≡ Answered
  pub quiet : IsQuiet one other

-- why they are not joined: a part is refused or there is a gap, a read of one of them failed, or memory was wanting
abbrev pub IsNotJoined : Problem → List (List ℕ) → Status → StoreState → StoreState → Type 0
IsNotJoined p certs status one other =
    IsRefusedJoin p certs status one other
    ⊎ (((status ≡ ReadFault) × SomeRose certs one.reads other.reads) ⊎ ((status ≡ NoMemory) × IsQuiet one other))

-- all possible worlds of the problem under a name, joined of the certificates under others
pub record AreWorldsOf (args : JoinArgs) (held : Contents) (worlds : List (List Rel)) : Type 0 where
  pub bytes : List ℕ
  pub told : MayHold (held args.input) bytes
  pub problem : Problem
  pub is : text_result bytes args.switches ≡ Ok problem
  pub joined : AreJoined problem args.certs held worlds

-- worlds are put, or a first part of their lines
abbrev pub IsPutAnswer : Result Status StoreFault → List (List Rel) → SinkState → SinkState → Type 0
IsPutAnswer result worlds old new =
    Leaves result (λ status. (status ≡ joined_status (length worlds)) × (new.bytes ≡ added old.bytes (joined_text worlds))) (GrownInPart old.bytes new.bytes (joined_text worlds)) old new
