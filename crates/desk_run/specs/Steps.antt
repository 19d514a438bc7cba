-- The steps of a run of the desk.
use Rattle.std.specs.Prelude.{◌≡◌, ℕ, List, [], ◌⊎◌, flat_map, Option, Result, Ok, Err}
use Rattle.outer_store.specs.Contents.{Contents}
use Rattle.outer_store.specs.Faults.{Rose}
use Rattle.outer_store.specs.States.{StoreState, SinkState, IsQuiet}
use Rattle.outer_store.specs.declared.fault.StoreFault.{StoreFault}
use Rattle.world_model.specs.Problem.{Problem}
use Rattle.cleantax_text.specs.Reading.{text_result}
use Rattle.cert_reader.specs.Bytes.{MayHold, ForSome}
use Rattle.desk_run.specs.declared.script.ScriptKind.{ScriptKind}
use Rattle.desk_run.specs.declared.script.requests.DeskRequest.{DeskRequest}
use Rattle.desk_run.specs.Script.Script.{Outcome, script_result}
use Rattle.command_line.specs.declared.request.DeskArgs.{DeskArgs}
use Rattle.command_line.specs.Requests.{Names, desk_names}
use Rattle.run_ends.specs.Runs.{Answers, Answered, HasFailed, LeavesPiece}
use Rattle.desk_run.specs.declared.DeskStatus.{DeskStatus}
use Rattle.desk_run.specs.declared.DeskStatus.TheVariants.{ReadFault, RefusedScript, NoMemory}
use Rattle.desk_run.specs.Ends.{desk_ending_of, desk_end_line}
use Rattle.desk_run.specs.Answering.{reply_line, IsTalkOf, IsServed, IsDeskAnswer}

-- why a run with some answers ends before anything is put: its answer is a last line alone, a read failed, or memory was wanting
abbrev pub IsEarlyEndOf : Names → Answers DeskStatus → DeskStatus → StoreState → StoreState → Type 0
IsEarlyEndOf names answers status one other =
    (answers one.held status (desk_end_line status) [] × (desk_ending_of status ≡ Answered) × IsQuiet one other)
    ⊎ (((status ≡ ReadFault) × HasFailed names.read one.reads other.reads) ⊎ ((status ≡ NoMemory) × IsQuiet one other))

-- so of a run of the desk
abbrev pub IsEarlyDeskEnd : DeskArgs → DeskStatus → StoreState → StoreState → Type 0
IsEarlyDeskEnd args status one other = IsEarlyEndOf (desk_names args) (IsDeskAnswer args) status one other

-- the problem that there may be under its name
abbrev pub IsProblemOf : DeskArgs → Contents → Problem → Type 0
IsProblemOf args held p = ForSome (MayHold (held args.input)) (λ bytes. text_result bytes args.switches ≡ Ok p)

-- the requests of a script, by what is told of it
abbrev pub AreRequestsOf : Problem → Option (List ℕ) → List DeskRequest → Type 0
AreRequestsOf p script requests = ForSome (MayHold script) (λ bytes. script_result p bytes ≡ Ok requests)

-- the problem and the requests that there may be under their names
abbrev pub IsAsked : DeskArgs → Contents → Problem → List DeskRequest → Type 0
IsAsked args held p requests = IsProblemOf args held p × AreRequestsOf p (held args.script) requests

-- why the bytes of a name were not read
abbrev pub IsUnread : List ℕ → DeskStatus → StoreState → StoreState → Type 0
IsUnread name status one other = ((status ≡ ReadFault) × Rose (one.reads name) (other.reads name)) ⊎ ((status ≡ NoMemory) × IsQuiet one other)

-- a script is refused with this status
abbrev pub IsRefusedScript : Outcome → DeskStatus → Type 0
IsRefusedScript outcome status = (why : ℕ × ScriptKind) × (outcome ≡ Err why) × (status ≡ RefusedScript why.0 why.1)

-- it is, or memory was wanting
abbrev pub IsScriptEnd : Outcome → DeskStatus → Type 0
IsScriptEnd outcome status = (status ≡ NoMemory) ⊎ IsRefusedScript outcome status

-- why there are no requests
abbrev pub IsWithoutScript : Problem → List ℕ → DeskStatus → StoreState → StoreState → Type 0
IsWithoutScript p name status one other =
    (ForSome (MayHold (one.held name)) (λ bytes. IsRefusedScript (script_result p bytes) status) × IsQuiet one other) ⊎ IsUnread name status one other

-- the replies of a talk are put, or a first part of them
abbrev pub ArePut : {T : Type 0} → Problem → List DeskRequest → Result T StoreFault → SinkState → SinkState → Type 0
ArePut p requests result old new = ForSome (IsTalkOf p requests) (λ talk. LeavesPiece result (flat_map reply_line talk) old new)

-- what is put of served requests, or a first part of it
abbrev pub IsServedOut : {T : Type 0} → Problem → List DeskRequest → Result T StoreFault → SinkState → SinkState → Type 0
IsServedOut p requests result old new = ForSome (IsServed p requests) (λ text. LeavesPiece result text old new)
