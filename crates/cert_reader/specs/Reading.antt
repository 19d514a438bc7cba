-- The lines of a whole certificate, and where its text ends or has its first fault.
use Rattle.std.specs.Prelude.{ℕ, ◌+◌, ◌^◌, ◌==◌, nat_lt, Bool, true, false, if◌then◌else◌, List, [], ◌∷◌, length, bytes_eq, Option, Some, None, Result, Ok, Err, ok_or}
use Rattle.std.specs.List.{list_any}
use Rattle.rcc5_core.specs.declared.Rel.{Rel}
use Rattle.proof_text.specs.declared.fault.LineTextFault.{LineTextFault}
use Rattle.proof_text.specs.declared.fault.LineTextFault.TheVariants as line_fault
use Rattle.proof_text.specs.Words.{words_of}
use Rattle.proof_text.specs.Lines.{◌>>=◌}
use Rattle.cert_text.specs.declared.line.CertLine.{CertLine}
use Rattle.cert_text.specs.declared.line.CertLine.TheVariants.{Certificate, Claims, Proof, Branch, NoPoint, NoRelation, World, Holds, Fails, End, Quit, Done}
use Rattle.cert_text.specs.declared.kind.LineKind.{LineKind}
use Rattle.cert_text.specs.declared.kind.LineKind.TheVariants as kind
use Rattle.cert_reader.specs.declared.mode.Mode.{Mode}
use Rattle.cert_reader.specs.declared.mode.Mode.TheVariants.{Header, Listing, Between, Block, Over}
use Rattle.cert_reader.specs.declared.spot.Spot.{Spot}
use Rattle.cert_reader.specs.declared.fault.CertTextKind.{CertTextKind}
use Rattle.cert_reader.specs.declared.fault.CertTextKind.TheVariants.{BadLine, BadNumber, EndsEarly, TooLong}
use Rattle.cert_text.specs.Lines.{kind_word, kind_in, rest_of}
use Rattle.cert_text.specs.Ends.{TextEnd, Whole, Faulty}

-- the kinds of lines that may stand at the top, in a listing, between the blocks of claims, in a block's tree, and behind the last line
abbrev pub kinds_at : Mode → List LineKind
kinds_at Header = kind.Certificate ∷ kind.Claims ∷ []
kinds_at Listing = kind.Derive ∷ kind.Forget ∷ kind.Branch ∷ kind.NoPoint ∷ kind.NoRelation ∷ kind.World ∷ kind.End ∷ []
kinds_at Between = kind.Derive ∷ kind.Forget ∷ kind.Holds ∷ kind.Fails ∷ kind.Done ∷ []
kinds_at Block = kind.Derive ∷ kind.Forget ∷ kind.Branch ∷ kind.NoPoint ∷ kind.NoRelation ∷ kind.End ∷ kind.Quit ∷ []
kinds_at Over = []

abbrev pub may_stand : Mode → LineKind → Bool
may_stand mode kind = list_any (λ other. bytes_eq (kind_word kind) (kind_word other)) (kinds_at mode)

-- where the line after an `end` stands, and after any line
abbrev pub after_end : Mode → Mode
after_end Header = Over
after_end Listing = Over
after_end Between = Over
after_end Block = Between
after_end Over = Over

abbrev pub mode_after : Mode → CertLine → Mode
mode_after mode (Certificate switches from) = Listing
mode_after mode (Claims switches) = Between
mode_after mode (Proof line) = mode
mode_after mode (Branch depth last) = mode
mode_after mode (NoPoint depth last need clause) = mode
mode_after mode (NoRelation depth last pair) = mode
mode_after mode (World depth last family) = mode
mode_after mode (Holds subject family) = mode
mode_after mode (Fails subject) = Block
mode_after mode (End to) = after_end mode
mode_after mode Quit = Between
mode_after mode Done = Over

-- an `end` line; the tree of a block ends at the end alone
abbrev pub end_in : Mode → Option (List Rel) → Result CertLine LineTextFault
end_in Header to = Ok (End to)
end_in Listing to = Ok (End to)
end_in Between to = Ok (End to)
end_in Block None = Ok (End None)
end_in Block (Some q) = Err line_fault.BadLine
end_in Over to = Ok (End to)

abbrev pub fits_in : Mode → CertLine → Result CertLine LineTextFault
fits_in mode (Certificate switches from) = Ok (Certificate switches from)
fits_in mode (Claims switches) = Ok (Claims switches)
fits_in mode (Proof line) = Ok (Proof line)
fits_in mode (Branch depth last) = Ok (Branch depth last)
fits_in mode (NoPoint depth last need clause) = Ok (NoPoint depth last need clause)
fits_in mode (NoRelation depth last pair) = Ok (NoRelation depth last pair)
fits_in mode (World depth last family) = Ok (World depth last family)
fits_in mode (Holds subject family) = Ok (Holds subject family)
fits_in mode (Fails subject) = Ok (Fails subject)
fits_in mode (End to) = end_in mode to
fits_in mode Quit = Ok Quit
fits_in mode Done = Ok Done

-- a line that stands in a mode, from its words: the first word is judged before the others
unfoldable pub line_in : Mode → List (List ℕ) → Result CertLine LineTextFault
line_in mode [] = Err line_fault.BadLine
line_in mode (word ∷ words) =
    ok_or (kind_in word) line_fault.BadLine >>= λ kind. if may_stand mode kind then (rest_of kind words >>= fits_in mode) else Err line_fault.BadLine

-- the spot of the first line, and the one after a line: a spot tells in which mode a line stands, its number from 1, and how many bytes come before it
abbrev pub first_spot : Spot
first_spot = record { mode = Header; line = 1; place = 0 }

abbrev pub spot_after : Spot → List ℕ → CertLine → Spot
spot_after spot bytes line = record { mode = mode_after spot.mode line; line = spot.line + 1; place = spot.place + length bytes + 1 }

-- the lines before the end or the first fault
pub record Reading : Type 0 where
  pub lines : List CertLine
  pub ends : TextEnd CertTextKind

abbrev pub whole : Reading
whole = record { lines = []; ends = Whole }

abbrev pub faulty : Spot → CertTextKind → Reading
faulty spot kind = record { lines = []; ends = Faulty spot.line kind }

abbrev pub with_first : CertLine → Reading → Reading
with_first line reading = record { lines = line ∷ reading.lines; ends = reading.ends }

-- the kind of a line's fault
abbrev pub kind_of_fault : LineTextFault → CertTextKind
kind_of_fault line_fault.BadLine = BadLine
kind_of_fault line_fault.BadNumber = BadNumber
kind_of_fault line_fault.NoMemory = BadLine

-- whether a line of n bytes goes on past the greatest length of a certificate
abbrev pub is_too_long : Spot → ℕ → Bool
is_too_long spot n = nat_lt (2 ^ 36) (spot.place + n)

-- whether no line may stand there any more
abbrev pub is_over : Mode → Bool
is_over Header = false
is_over Listing = false
is_over Between = false
is_over Block = false
is_over Over = true

-- the fault of bytes with no LF behind them, if any: a whole text ends with none
unfoldable pub rest_fault : Spot → List ℕ → Option CertTextKind
rest_fault spot bytes =
    if is_too_long spot (length bytes) then Some TooLong else
    (if is_over spot.mode then (if length bytes == 0 then None else Some BadLine) else Some EndsEarly)

-- the line that bytes before an LF spell, and the spot after it, or its fault
abbrev pub line_read : Spot → List ℕ → Result CertLine LineTextFault → Result (CertLine × Spot) CertTextKind
line_read spot bytes (Ok line) = Ok (line, spot_after spot bytes line)
line_read spot bytes (Err fault) = Err (kind_of_fault fault)

unfoldable pub line_at : Spot → List ℕ → Result (CertLine × Spot) CertTextKind
line_at spot bytes = if is_too_long spot (length bytes + 1) then Err TooLong else line_read spot bytes (line_in spot.mode (words_of 32 bytes))

-- what an end, or a line, leaves to be read
abbrev pub ending : Spot → Option CertTextKind → Reading
ending spot None = whole
ending spot (Some kind) = faulty spot kind

abbrev pub going_on : Spot → Result (CertLine × Spot) CertTextKind → (Spot → Reading) → Reading
going_on spot (Ok read) further = with_first read.0 (further read.1)
going_on spot (Err kind) further = faulty spot kind

-- the lines of pieces of a text, each ended by an LF but for the last
abbrev pub reading_of : Spot → List (List ℕ) → Reading
reading_of spot [] = ending spot (rest_fault spot [])
reading_of spot (bytes ∷ []) = ending spot (rest_fault spot bytes)
reading_of spot (bytes ∷ next ∷ pieces) = going_on spot (line_at spot bytes) (λ after. reading_of after (next ∷ pieces))

-- the reading of the bytes from a spot on, and of a whole text
abbrev pub reading_from : Spot → List ℕ → Reading
reading_from spot bytes = reading_of spot (words_of 10 bytes)

abbrev pub reading : List ℕ → Reading
reading bytes = reading_from first_spot bytes
