-- The status with which a run ends, its exit code, and the line that is put last.
use Rattle.std.specs.Prelude.{◌≡◌, ◌≢◌, ◌<◌, ◌≤◌, ℕ, ◌-◌, ◌==◌, List, [], ◌∷◌, ◌++◌, length, map, slice_index_or, ◌⊎◌, Option, if◌then◌else◌, codes, decimal}
use Rattle.rcc5_core.specs.declared.Rel.{Rel}
use Rattle.rcc5_core.specs.Relation.{letter_of}
use Rattle.outer_store.specs.Bytes.{GrownInPart, added}
use Rattle.outer_store.specs.Faults.{Rose}
use Rattle.outer_store.specs.States.{SinkState}
use Rattle.cleantax_text.specs.declared.TextKind.{TextKind}
use Rattle.cleantax_text.specs.declared.TextKind.TheVariants as text
use Rattle.run_ends.specs.declared.token.TokenKind.{TokenKind}
use Rattle.run_ends.specs.declared.token.TokenKind.TheVariants as token
use Rattle.cert_reader.specs.declared.fault.CertTextKind.{CertTextKind}
use Rattle.cert_reader.specs.declared.fault.CertTextKind.TheVariants as cert
use Rattle.cert_rules.specs.declared.RejectKind.{RejectKind}
use Rattle.cert_rules.specs.declared.RejectKind.TheVariants as reject
use Rattle.cert_rules.specs.declared.parts.PartKind.{PartKind}
use Rattle.cert_rules.specs.declared.parts.PartKind.TheVariants as part
use Rattle.proof_text.specs.Words.{position_word}
use Rattle.cert_text.specs.Lines.{end_word}
use Rattle.command_line.specs.declared.UsageKind.{UsageKind}
use Rattle.command_line.specs.Words.{usage_name}
use Rattle.run_ends.specs.declared.PairKind.{PairKind}
use Rattle.run_ends.specs.declared.PairKind.TheVariants as pair
use Rattle.run_ends.specs.declared.Status.{Status}
use Rattle.run_ends.specs.declared.Status.TheVariants.{Done, RefusedText, Usage, ReadFault, WriteFault, Cut, NoWorld, RefusedToken, RefusedCert, Rejected, NoMemory, Consistent, RefusedPair, TooMany, NotEntailed, EmptyPart, PartRefused, Gap}

-- the exit code of a status
abbrev pub code_of : Status → ℕ
code_of Done = 0
code_of (RefusedText line kind) = 1
code_of (Usage kind) = 2
code_of ReadFault = 3
code_of WriteFault = 4
code_of (Cut at) = 5
code_of NoWorld = 6
code_of (RefusedToken kind) = 7
code_of (RefusedCert line kind) = 7
code_of (Rejected line kind) = 8
code_of NoMemory = 9
code_of Consistent = 10
code_of (RefusedPair kind) = 12
code_of TooMany = 13
code_of NotEntailed = 14
code_of EmptyPart = 15
code_of (PartRefused part line kind) = 16
code_of (Gap from to) = 17

-- a line: its words, and its end
abbrev pub line_of : List ℕ → List ℕ
line_of text = text ++ 10 ∷ []

-- a text in lines: where its last byte is no line feed, one is put behind it
abbrev pub in_lines : List ℕ → List ℕ
in_lines [] = []
in_lines (byte ∷ []) = if byte == 10 then byte ∷ [] else line_of (byte ∷ [])
in_lines (byte ∷ next ∷ bytes) = byte ∷ in_lines (next ∷ bytes)

-- a world's line: the letters of its table
abbrev pub world_line : List Rel → List ℕ
world_line table = line_of (map letter_of table)

-- the last line of a listing of so many worlds
abbrev pub complete_line : ℕ → List ℕ
complete_line count = line_of (codes "complete " ++ decimal count)

-- the names of faults, as they are printed
abbrev pub text_name : TextKind → List ℕ
text_name text.NotUtf8 = codes "NotUtf8"
text_name text.BadLine = codes "BadLine"
text_name text.BadName = codes "BadName"
text_name text.UnknownRelation = codes "UnknownRelation"
text_name text.EmptyBraces = codes "EmptyBraces"
text_name text.RowOutsideTaxonomy = codes "RowOutsideTaxonomy"
text_name text.ArticulationOutside = codes "ArticulationOutside"
text_name text.TaxonomyTwice = codes "TaxonomyTwice"
text_name text.TaxonomyCount = codes "TaxonomyCount"
text_name text.UnknownConcept = codes "UnknownConcept"
text_name text.SameTaxonomy = codes "SameTaxonomy"
text_name text.TwoParents = codes "TwoParents"
text_name text.ChildTwice = codes "ChildTwice"
text_name text.Cycle = codes "Cycle"
text_name text.TooManyConcepts = codes "TooManyConcepts"
text_name text.TooManyArticulations = codes "TooManyArticulations"
text_name text.TooLong = codes "TooLong"
text_name text.NoMemory = codes "NoMemory"
text_name text.PartTwice = codes "PartTwice"

abbrev pub token_name : TokenKind → List ℕ
token_name token.BadToken = codes "BadToken"
token_name token.OtherProblem = codes "OtherProblem"
token_name token.BadPosition = codes "BadPosition"

abbrev pub cert_name : CertTextKind → List ℕ
cert_name cert.BadLine = codes "BadLine"
cert_name cert.BadNumber = codes "BadNumber"
cert_name cert.EndsEarly = codes "EndsEarly"
cert_name cert.TooLong = codes "TooLong"

abbrev pub reject_name : RejectKind → List ℕ
reject_name reject.UnknownHint = codes "UnknownHint"
reject_name reject.HintNotUnit = codes "HintNotUnit"
reject_name reject.NoConflict = codes "NoConflict"
reject_name reject.IdUsed = codes "IdUsed"
reject_name reject.WrongHeader = codes "WrongHeader"
reject_name reject.NeedNotForced = codes "NeedNotForced"
reject_name reject.LiteralNotForced = codes "LiteralNotForced"
reject_name reject.FamilyDoesNotMeet = codes "FamilyDoesNotMeet"
reject_name reject.FamilyHasOtherTable = codes "FamilyHasOtherTable"
reject_name reject.MissingBranch = codes "MissingBranch"
reject_name reject.ExtraBranch = codes "ExtraBranch"
reject_name reject.UnknownClause = codes "UnknownClause"
reject_name reject.PairNotEmpty = codes "PairNotEmpty"
reject_name reject.BranchTooDeep = codes "BranchTooDeep"
reject_name reject.WrongSubject = codes "WrongSubject"

abbrev pub pair_name : PairKind → List ℕ
pair_name pair.UnknownConcept = codes "UnknownConcept"
pair_name pair.SameConcept = codes "SameConcept"

abbrev pub part_name : PartKind → List ℕ
part_name (part.Text kind) = cert_name kind
part_name (part.Rejected kind) = reject_name kind

-- what is said of a refused text, token or certificate, of a rejected line, and of words that are no request
abbrev pub refused_words : ℕ → TextKind → List ℕ
refused_words line kind = codes "refused " ++ (decimal line ++ (codes " " ++ text_name kind))

abbrev pub token_words : TokenKind → List ℕ
token_words kind = codes "token " ++ token_name kind

abbrev pub cert_words : ℕ → CertTextKind → List ℕ
cert_words line kind = codes "certificate " ++ (decimal line ++ (codes " " ++ cert_name kind))

abbrev pub rejected_words : ℕ → RejectKind → List ℕ
rejected_words line kind = codes "rejected " ++ (decimal line ++ (codes " " ++ reject_name kind))

abbrev pub usage_words : UsageKind → List ℕ
usage_words kind = codes "usage " ++ usage_name kind

-- what is said of words that name no pair, of a part whose certificate is refused, and of a gap between parts
abbrev pub pair_words : PairKind → List ℕ
pair_words kind = codes "pair " ++ pair_name kind

abbrev pub part_words : ℕ → ℕ → PartKind → List ℕ
part_words part line kind = codes "refused part " ++ (decimal part ++ (codes " " ++ (decimal line ++ (codes " " ++ part_name kind))))

abbrev pub gap_line : List Rel → Option (List Rel) → List ℕ
gap_line from to = line_of (codes "gap " ++ (position_word from ++ 32 ∷ end_word to))

-- the line that a status puts last: nothing, where the command has put its own last line, or nothing further is put
abbrev pub end_line : Status → List ℕ
end_line Done = []
end_line (RefusedText line kind) = line_of (refused_words line kind)
end_line (Usage kind) = line_of (usage_words kind)
end_line ReadFault = line_of (codes "read fault")
end_line WriteFault = []
end_line (Cut at) = []
end_line NoWorld = []
end_line (RefusedToken kind) = line_of (token_words kind)
end_line (RefusedCert line kind) = line_of (cert_words line kind)
end_line (Rejected line kind) = line_of (rejected_words line kind)
end_line NoMemory = line_of (codes "no memory")
end_line Consistent = []
end_line (RefusedPair kind) = line_of (pair_words kind)
end_line TooMany = line_of (codes "too many")
end_line NotEntailed = line_of (codes "not entailed")
end_line EmptyPart = line_of (codes "empty part")
end_line (PartRefused part line kind) = line_of (part_words part line kind)
end_line (Gap from to) = gap_line from to

-- the last line is put and the status answered; or its put was refused; or memory was wanting
abbrev pub IsLastPut : Status → Status → List ℕ → SinkState → SinkState → Type 0
IsLastPut status result line old new =
    ((result ≡ status) × (new.bytes ≡ added old.bytes line) × (new.faults ≡ old.faults))
    ⊎ (((result ≡ WriteFault) × GrownInPart old.bytes new.bytes line × Rose old.faults new.faults)
    ⊎ ((result ≡ NoMemory) × GrownInPart old.bytes new.bytes line × (new.faults ≡ old.faults)))

-- where a line of a text ends that begins at a place: behind the first line feed from there on, or at the text's end
pub record IsLineEnd (text : List ℕ) (from to : ℕ) : Type 0 where
  pub beyond : from < to
  pub within : to ≤ length text
  pub first : (k : ℕ) → from ≤ k → k < to - 1 → slice_index_or text k 0 ≢ 10
  pub ended : (to ≡ length text) ⊎ (slice_index_or text (to - 1) 0 ≡ 10)
