-- How a run ends: its status beside what it put on the sink and what failed in it, for a command with any answers.
use Rattle.std.specs.Prelude.{◌≡◌, ◌≤◌, ℕ, List, [], ◌∷◌, map, Option, None, Some, is_some, IfSome, IsTrue, IfOk, OnErr, Result, Contains, All, ◌⊎◌}
use Rattle.outer_store.specs.Bytes.{GrownInPart, added}
use Rattle.outer_store.specs.Contents.{Contents}
use Rattle.outer_store.specs.Faults.{Counts, Rose, IfFailed}
use Rattle.outer_store.specs.States.{StoreState, SinkState, IsQuiet}
use Rattle.outer_store.specs.declared.fault.StoreFault.{StoreFault}
use Rattle.command_line.specs.Requests.{Names}
use Rattle.run_ends.specs.declared.Status.{Status}
use Rattle.run_ends.specs.declared.Status.TheVariants.{Done, RefusedText, Usage, ReadFault, WriteFault, Cut, NoWorld, RefusedToken, RefusedCert, Rejected, NoMemory, Consistent, RefusedPair, TooMany, NotEntailed, EmptyPart, PartRefused, Gap}
use Rattle.run_ends.specs.Ends.{end_line}

-- the four ways in which a run ends: it answers, a read failed, a write failed, or memory was wanting
pub data Ending : Type 0 where
  Answered : Ending
  ReadFailed : Ending
  WriteFailed : Ending
  Starved : Ending

-- the way in which a run with this status ends
abbrev pub ending_of : Status → Ending
ending_of Done = Answered
ending_of (RefusedText line kind) = Answered
ending_of (Usage kind) = Answered
ending_of ReadFault = ReadFailed
ending_of WriteFault = WriteFailed
ending_of (Cut at) = Answered
ending_of NoWorld = Answered
ending_of (RefusedToken kind) = Answered
ending_of (RefusedCert line kind) = Answered
ending_of (Rejected line kind) = Answered
ending_of NoMemory = Starved
ending_of Consistent = Answered
ending_of (RefusedPair kind) = Answered
ending_of TooMany = Answered
ending_of NotEntailed = Answered
ending_of EmptyPart = Answered
ending_of (PartRefused part line kind) = Answered
ending_of (Gap from to) = Answered

-- what a call leaves on a sink: what is so after Ok, and after a fault; and a failed put has its cause
pub record Leaves {T : Type 0} (result : Result T StoreFault) (done : T → Type 0) (refused : Type 0) (old new : SinkState) : Type 0 where
  pub ok : IfOk result done
  pub err : OnErr result refused
  pub cause : IfFailed result (Rose old.faults new.faults) (new.faults ≡ old.faults)
  pub later : old.faults ≤ new.faults

-- a piece is put, and after a fault a first part of it
abbrev pub LeavesPiece : {T : Type 0} → Result T StoreFault → List ℕ → SinkState → SinkState → Type 0
LeavesPiece result piece old new = Leaves result (λ _. new.bytes ≡ added old.bytes piece) (GrownInPart old.bytes new.bytes piece) old new

-- a file that is written: its name, and its bytes where they are told
pub record File : Type 0 where
  pub name : List ℕ
  pub bytes : Option (List ℕ)

-- a file under a name, where there is one
abbrev pub file_under : Option (List ℕ) → Option (List ℕ) → List File
file_under None bytes = []
file_under (Some name) bytes = record { name = name; bytes = bytes } ∷ []

-- the answers of a command, by what is told of what names hold: a status of some type, the text that is put and the files that are
-- written
abbrev pub Answers : Type 0 → Type 1
Answers S = Contents → S → List ℕ → List File → Type 0

-- just the last line of a status is put
abbrev pub IsEndAlone : Status → Status → List ℕ → List File → Type 0
IsEndAlone end status text files = (status ≡ end) × (text ≡ end_line end) × (files ≡ [])

-- the count of one of some names rose
pub record HasFailed (names : List (List ℕ)) (before now : Counts) : Type 0 where
  pub name : List ℕ
  pub named : Contains names name
  pub rose : Rose (before name) (now name)

-- names other than these hold what they held
abbrev pub AreKeptBut : List (List ℕ) → Contents → Contents → Type 0
AreKeptBut names old new = (name : List ℕ) → (Contains names name → ⊥) → new name ≡ old name

-- a name holds the bytes of its file, which are told where it told its bytes before
abbrev pub IsHeld : Contents → Contents → File → Type 0
IsHeld old new file = (new file.name ≡ file.bytes) × IfSome (old file.name) (λ _. IsTrue (is_some file.bytes))

-- files are written, and all else is kept
pub record AreWritten (files : List File) (old new : Contents) : Type 0 where
  pub each : All (IsHeld old new) files
  pub others : AreKeptBut (map (λ file. file.name) files) old new

-- a first part of a text, and then of the line that says that memory was wanting
pub record IsCutShort (old new : Option (List ℕ)) (text : List ℕ) : Type 0 where
  pub between : Option (List ℕ)
  pub begun : GrownInPart old between text
  pub ended : GrownInPart between new (end_line NoMemory)

-- the text of an answer, or nothing
abbrev pub IsAskedText : {S : Type 0} → Answers S → Contents → List ℕ → Type 0
IsAskedText {S = S} answers held text = ((status : S) × (files : List File) × answers held status text files) ⊎ (text ≡ [])

-- an answer's text, or nothing, cut short
pub record IsPutInPart {S : Type 0} (answers : Answers S) (held : Contents) (old new : Option (List ℕ)) : Type 0 where
  pub text : List ℕ
  pub of_answer : IsAskedText answers held text
  pub cut : IsCutShort old new text

-- the answer is put whole and its files are written, and no call failed
pub record IsAnswered {S : Type 0} (names : Names) (answers : Answers S) (status : S) (store store' : StoreState) (sink sink' : SinkState) : Type 0 where
  pub text : List ℕ
  pub files : List File
  pub asked : answers store.held status text files
  pub put : sink'.bytes ≡ added sink.bytes text
  pub written : AreWritten files store.held store'.held
  pub quiet : IsQuiet store store'
  pub no_put_failed : sink'.faults ≡ sink.faults

-- a read failed, and the line that says so is all that is put
pub record IsReadEnd (names : Names) (store store' : StoreState) (sink sink' : SinkState) : Type 0 where
  pub failed : HasFailed names.read store.reads store'.reads
  pub said : sink'.bytes ≡ added sink.bytes (end_line ReadFault)
  pub kept : store'.held ≡ store.held
  pub no_put_failed : sink'.faults ≡ sink.faults

-- a read failed, and a first part of the line that says so is put; or no call of the store failed, and the answer is put in part
abbrev pub IsInterrupted : {S : Type 0} → Names → Answers S → StoreState → StoreState → SinkState → SinkState → Type 0
IsInterrupted names answers store store' sink sink' =
    (HasFailed names.read store.reads store'.reads × GrownInPart sink.bytes sink'.bytes (end_line ReadFault))
    ⊎ (IsQuiet store store' × IsPutInPart answers store.held sink.bytes sink'.bytes)

-- a put failed
abbrev pub IsPutFailed : {S : Type 0} → Names → Answers S → StoreState → StoreState → SinkState → SinkState → Type 0
IsPutFailed names answers store store' sink sink' = Rose sink.faults sink'.faults × IsInterrupted names answers store store' sink sink'

-- a write of a name failed, when the answer was put in part; nothing is told of the counts of reads and of other names then, since a
-- store may have one count for all
pub record IsFileFailed {S : Type 0} (names : Names) (answers : Answers S) (store store' : StoreState) (sink sink' : SinkState) : Type 0 where
  pub failed : HasFailed names.written store.writes store'.writes
  pub put : IsPutInPart answers store.held sink.bytes sink'.bytes
  pub no_put_failed : sink'.faults ≡ sink.faults

-- a put failed, or a write of a name
pub record IsWriteEnd {S : Type 0} (names : Names) (answers : Answers S) (store store' : StoreState) (sink sink' : SinkState) : Type 0 where
  pub cause : IsPutFailed names answers store store' sink sink' ⊎ IsFileFailed names answers store store' sink sink'
  pub kept : AreKeptBut names.written store.held store'.held

-- memory was wanting
pub record IsStarvedEnd {S : Type 0} (names : Names) (answers : Answers S) (store store' : StoreState) (sink sink' : SinkState) : Type 0 where
  pub no_put_failed : sink'.faults ≡ sink.faults
  pub put : IsInterrupted names answers store store' sink sink'
  pub kept : AreKeptBut names.written store.held store'.held

-- what a run over a store and a sink does, by the way in which it ends, whatever the type of its status: what it put and wrote, and
-- which calls failed in it
abbrev pub IsRunBy : {S : Type 0} → Ending → Names → Answers S → S → StoreState → StoreState → SinkState → SinkState → Type 0
IsRunBy Answered names answers status store store' sink sink' = IsAnswered names answers status store store' sink sink'
IsRunBy ReadFailed names answers status store store' sink sink' = IsReadEnd names store store' sink sink'
IsRunBy WriteFailed names answers status store store' sink sink' = IsWriteEnd names answers store store' sink sink'
IsRunBy Starved names answers status store store' sink sink' = IsStarvedEnd names answers store store' sink sink'

abbrev pub IsRunOf : Names → Answers Status → Status → StoreState → StoreState → SinkState → SinkState → Type 0
IsRunOf names answers status store store' sink sink' = IsRunBy (ending_of status) names answers status store store' sink sink'

-- why a run ends before anything is put: its answer is a last line alone, a read failed, or memory was wanting
abbrev pub IsEarlyEnd : Names → Answers Status → Status → StoreState → StoreState → Type 0
IsEarlyEnd names answers status one other =
    (answers one.held status (end_line status) [] × (ending_of status ≡ Answered) × IsQuiet one other)
    ⊎ (((status ≡ ReadFault) × HasFailed names.read one.reads other.reads) ⊎ ((status ≡ NoMemory) × IsQuiet one other))

-- a put failed and no call of the store; or a write of a name and no put
abbrev pub IsWriteCause : List (List ℕ) → StoreState → StoreState → SinkState → SinkState → Type 0
IsWriteCause names store store' sink sink' =
    (Rose sink.faults sink'.faults × IsQuiet store store') ⊎ (HasFailed names store.writes store'.writes × (sink'.faults ≡ sink.faults))

-- which calls failed where an answer is put and written, and what is kept
pub record IsByCause (result : Result Status StoreFault) (names : List (List ℕ)) (store store' : StoreState) (sink sink' : SinkState) : Type 0 where
  pub cause : IfFailed result (IsWriteCause names store store' sink sink') (IsQuiet store store' × (sink'.faults ≡ sink.faults))
  pub kept : AreKeptBut names store.held store'.held

-- an answer is put and its files are written
pub record IsPutWhole (answers : Answers Status) (status : Status) (store store' : StoreState) (sink sink' : SinkState) : Type 0 where
  pub text : List ℕ
  pub files : List File
  pub asked : answers store.held status text files
  pub answered : ending_of status ≡ Answered
  pub put : sink'.bytes ≡ added sink.bytes text
  pub written : AreWritten files store.held store'.held

-- a first part of an answer's text is put, or nothing
pub record IsPutPart {S : Type 0} (answers : Answers S) (store : StoreState) (sink sink' : SinkState) : Type 0 where
  pub text : List ℕ
  pub of_answer : IsAskedText answers store.held text
  pub part : GrownInPart sink.bytes sink'.bytes text

-- an answer is put and written, or a first part of its text, or nothing, is put
pub record IsCarriedOut (answers : Answers Status) (result : Result Status StoreFault) (names : List (List ℕ)) (store store' : StoreState) (sink sink' : SinkState) : Type 0 where
  pub done : IfOk result (λ status. IsPutWhole answers status store store' sink sink')
  pub refused : OnErr result (IsPutPart answers store sink sink')
  pub by_cause : IsByCause result names store store' sink sink'
