-- What a reader of a certificate answers.
use Rattle.std.specs.Prelude.{◌≡◌, ℕ, ◌+◌, ◌^◌, ◌<◌, ◌≤◌, true, false, List, [], ◌∷◌, ◌++◌, length, Option, Some, None, Result, Ok, Err, ⊤}
use Rattle.proof_text.specs.declared.fault.LineTextFault.TheVariants as line_fault
use Rattle.proof_text.specs.Words.{words_of}
use Rattle.proof_text.specs.Laws.{has_byte}
use Rattle.cert_text.specs.declared.line.CertLine.{CertLine}
use Rattle.cert_reader.specs.declared.mode.Mode.{Mode}
use Rattle.cert_reader.specs.declared.spot.Spot.{Spot}
use Rattle.cert_reader.specs.declared.gather.Gathered.{Gathered}
use Rattle.cert_reader.specs.declared.gather.Gathered.TheVariants as gathered
use Rattle.cert_reader.specs.declared.fault.CertTextKind.{CertTextKind}
use Rattle.cert_reader.specs.declared.fault.CertTextFault.{CertTextFault}
use Rattle.cert_reader.specs.declared.fault.CertTextFault.TheVariants.{Text, ReadFault, NoMemory}
use Rattle.cert_reader.specs.Bytes.{MayCome, ForSome}
use Rattle.cert_text.specs.Ends.{Faulty}
use Rattle.cert_reader.specs.Reading.{Reading, whole, faulty, line_in, with_first, reading_from}

-- a reader: the spot of the next line, the bytes that were taken and are still to come, and its refusal, if there was one
pub record Reader : Type 0 where
  pub spot : Spot
  pub pending : List ℕ
  pub refusal : Option CertTextFault

-- a spot within the greatest length, with a number that its place allows
abbrev pub IsSpot : Spot → Type 0
IsSpot spot = (spot.place ≤ 2 ^ 36) × (spot.line ≤ spot.place + 1)

-- bytes that begin no line which may stand in a mode, whatever comes behind them
pub record BeginsNone (mode : Mode) (front : List ℕ) : Type 0 where
  pub some : 0 < length front
  pub bad : (more : List ℕ) → line_in mode (words_of 32 (front ++ more)) ≡ Err line_fault.BadLine

-- what was gathered of some bytes at a spot: a line up to its LF, all the rest where it has room, or the fault that they are read as
abbrev pub IsGathered : Gathered → Spot → List ℕ → List ℕ → List ℕ → Type 0
IsGathered gathered.Line spot old new line = (has_byte 10 line ≡ false) × (old ≡ line ++ 10 ∷ new)
IsGathered gathered.Rest spot old new line = (has_byte 10 line ≡ false) × (spot.place + length line ≤ 2 ^ 36) × (old ≡ line)
IsGathered (gathered.Faulty kind) spot old new line = reading_from spot old ≡ faulty spot kind

-- what a call answered is what reading a spot gives, unless memory ran out
abbrev pub IsToldAt : {A : Type 0} → Spot → Result A CertTextKind → Result A CertTextFault → Type 0
IsToldAt spot read (Ok x) = read ≡ Ok x
IsToldAt spot read (Err (Text line kind)) = (line ≡ spot.line) × (read ≡ Err kind)
IsToldAt spot read (Err ReadFault) = false ≡ true
IsToldAt spot read (Err NoMemory) = ⊤

-- what a reader may have to read: bytes that may be to come, from its spot on
abbrev pub MayRead : Reader → Option (List ℕ) → Reading → Type 0
MayRead reader left read = ForSome (MayCome reader.pending left) (λ bytes. read ≡ reading_from reader.spot bytes)

-- an answer by what there was to read and what there is now: the first line, or none where the text is whole, or the first fault
abbrev pub IsAnswer : Result (Option CertLine) CertTextFault → Reading → Reading → Type 0
IsAnswer (Ok (Some line)) old new = old ≡ with_first line new
IsAnswer (Ok None) old new = old ≡ whole
IsAnswer (Err (Text line kind)) old new = old ≡ record { lines = []; ends = Faulty line kind }
IsAnswer (Err ReadFault) old new = ⊤
IsAnswer (Err NoMemory) old new = ⊤

-- the answer at the end of the bytes
abbrev pub ended_by : Spot → Option CertTextKind → Result (Option CertLine) CertTextFault
ended_by spot None = Ok None
ended_by spot (Some kind) = Err (Text spot.line kind)

-- one fact where the answer is ReadFault, and another at every other answer
abbrev pub IfReadFault : {T : Type 0} → Result T CertTextFault → Type 0 → Type 0 → Type 0
IfReadFault (Ok value) failed other = other
IfReadFault (Err (Text line kind)) failed other = other
IfReadFault (Err ReadFault) failed other = failed
IfReadFault (Err NoMemory) failed other = other
