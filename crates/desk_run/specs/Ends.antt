-- How a run of the desk ends, and the line that is put last.
use Rattle.std.specs.Prelude.{◌≡◌, ℕ, List, [], ◌++◌, ◌⊎◌, codes, decimal}
use Rattle.outer_store.specs.Bytes.{GrownInPart, added}
use Rattle.outer_store.specs.Faults.{Rose}
use Rattle.outer_store.specs.States.{SinkState}
use Rattle.desk_run.specs.declared.script.ScriptKind.{ScriptKind}
use Rattle.desk_run.specs.Script.Script.{kind_name}
use Rattle.run_ends.specs.declared.Status.{Status}
use Rattle.run_ends.specs.declared.Status.TheVariants as status
use Rattle.run_ends.specs.Ends.{line_of, end_line}
use Rattle.run_ends.specs.Runs.{Ending, Answered, ReadFailed, WriteFailed, Starved}
use Rattle.desk_run.specs.declared.DeskStatus.{DeskStatus}
use Rattle.desk_run.specs.declared.DeskStatus.TheVariants.{Done, RefusedText, Usage, ReadFault, WriteFault, RefusedScript, NoMemory}

-- the exit code of a status
abbrev pub desk_code_of : DeskStatus → ℕ
desk_code_of Done = 0
desk_code_of (RefusedText line kind) = 1
desk_code_of (Usage kind) = 2
desk_code_of ReadFault = 3
desk_code_of WriteFault = 4
desk_code_of (RefusedScript line kind) = 7
desk_code_of NoMemory = 9

-- the way in which a run with this status ends
abbrev pub desk_ending_of : DeskStatus → Ending
desk_ending_of Done = Answered
desk_ending_of (RefusedText line kind) = Answered
desk_ending_of (Usage kind) = Answered
desk_ending_of ReadFault = ReadFailed
desk_ending_of WriteFault = WriteFailed
desk_ending_of (RefusedScript line kind) = Answered
desk_ending_of NoMemory = Starved

-- how a run ends without a problem, by how other commands would
abbrev pub desk_status_of : Status → DeskStatus
desk_status_of (status.RefusedText line kind) = RefusedText line kind
desk_status_of status.ReadFault = ReadFault
desk_status_of other = NoMemory

-- what is said of a refused script
abbrev pub script_words : ℕ → ScriptKind → List ℕ
script_words line kind = codes "script " ++ (decimal line ++ (codes " " ++ kind_name kind))

-- the line that a status puts last, where nothing stands there already
abbrev pub desk_end_line : DeskStatus → List ℕ
desk_end_line Done = []
desk_end_line (RefusedText line kind) = end_line (status.RefusedText line kind)
desk_end_line (Usage kind) = end_line (status.Usage kind)
desk_end_line ReadFault = end_line status.ReadFault
desk_end_line WriteFault = end_line status.WriteFault
desk_end_line (RefusedScript line kind) = line_of (script_words line kind)
desk_end_line NoMemory = end_line status.NoMemory

-- the last line is put and the status answered; or its put was refused; or memory was wanting
abbrev pub IsDeskLastPut : DeskStatus → DeskStatus → List ℕ → SinkState → SinkState → Type 0
IsDeskLastPut status result line old new =
    ((result ≡ status) × (new.bytes ≡ added old.bytes line) × (new.faults ≡ old.faults))
    ⊎ (((result ≡ WriteFault) × GrownInPart old.bytes new.bytes line × Rose old.faults new.faults)
    ⊎ ((result ≡ NoMemory) × GrownInPart old.bytes new.bytes line × (new.faults ≡ old.faults)))
