-- The lines of a certificate as text: words, with one space between two. They are looked at from the left, and the first
-- fault counts.
use Rattle.std.specs.Prelude.{ℕ, ◌-◌, ◌^◌, ◌<◌, ◌≤◌, ◌==◌, Bool, true, false, if◌then◌else◌, List, [], ◌∷◌, ◌++◌, map, find, codes, bytes_eq, decimal, Option, Some, None, option_map, option_and_then, Result, Ok, Err, ok_or, All, ⊤}
use Rattle.std.specs.List.{join_with_byte}
use Rattle.lits_core.specs.Derivation.{FromOne}
use Rattle.rcc5_core.specs.declared.Rel.{Rel}
use Rattle.rcc5_core.specs.Relation.{letter_of, with_letter}
use Rattle.world_model.specs.declared.Switches.{Switches}
use Rattle.world_model.specs.Family.{Family}
use Rattle.proof_text.specs.declared.fault.LineTextFault.{LineTextFault}
use Rattle.proof_text.specs.declared.fault.LineTextFault.TheVariants.{BadLine, BadNumber}
use Rattle.proof_text.specs.Words.{words_of, spelled, switch_word, position_word}
use Rattle.proof_text.specs.Numbers.{number_in}
use Rattle.proof_text.specs.Lines.{◌>>=◌, id_in, item_at, derive_of, forget_of, line_words, IsId, IsLine}
use Rattle.cert_text.specs.declared.line.CertLine.{CertLine}
use Rattle.cert_text.specs.declared.line.CertLine.TheVariants.{Certificate, Claims, Proof, Branch, NoPoint, NoRelation, World, Holds, Fails, End, Quit, Done}
use Rattle.cert_text.specs.declared.line.Subject.{Subject}
use Rattle.cert_text.specs.declared.line.Subject.TheVariants.{Narrowed, Kept}
use Rattle.cert_text.specs.declared.kind.LineKind.{LineKind}
use Rattle.cert_text.specs.declared.kind.LineKind.TheVariants as kind

-- what the first of some words gives, and the words after it
abbrev pub taken : {A : Type 0} → (List ℕ → Result A LineTextFault) → List (List ℕ) → Result (A × List (List ℕ)) LineTextFault
taken at [] = Err BadLine
taken at (word ∷ words) = at word >>= λ x. Ok (x, words)

-- what the members of a list stand for, if each stands for something
abbrev pub each_in : {X A : Type 0} → (X → Option A) → List X → Option (List A)
each_in one [] = Some []
each_in one (x ∷ xs) = option_and_then (λ a. option_map (λ others. a ∷ others) (each_in one xs)) (one x)

-- the list that a word spells with one byte for each member; the empty list is a full stop
abbrev pub spelled_in : {A : Type 0} → (ℕ → Option A) → List ℕ → Option (List A)
spelled_in symbol [] = None
spelled_in symbol (first ∷ others) = if bytes_eq (first ∷ others) (codes ".") then Some [] else each_in symbol (first ∷ others)

-- the number below 2 ^ 32, or 2 ^ 64, that a word is
abbrev pub small_in : List ℕ → Option ℕ
small_in word = number_in 0 (2 ^ 32 - 1) word

abbrev pub large_in : List ℕ → Option ℕ
large_in word = number_in 0 (2 ^ 64 - 1) word

-- a switch by its word
abbrev pub switch_at : List ℕ → Result Bool LineTextFault
switch_at word = if bytes_eq word (codes "on") then Ok true else (if bytes_eq word (codes "off") then Ok false else Err BadLine)

-- a relation by its letter
abbrev pub relation_at : List ℕ → Result Rel LineTextFault
relation_at [] = Err BadLine
relation_at (letter ∷ []) = ok_or (with_letter letter) BadLine
relation_at (letter ∷ other ∷ others) = Err BadLine

-- the last relation on the way to a node, by its letter; a full stop at the root
abbrev pub last_at : List ℕ → Result (Option Rel) LineTextFault
last_at word = if bytes_eq word (codes ".") then Ok None else (relation_at word >>= λ rel. Ok (Some rel))

abbrev pub last_word : Option Rel → List ℕ
last_word None = codes "."
last_word (Some rel) = letter_of rel ∷ []

-- a position by its letters
abbrev pub position_at : List ℕ → Result (List Rel) LineTextFault
position_at word = ok_or (spelled_in with_letter word) BadLine

-- where a tree ends: before a position, or, by a `-`, at the end
abbrev pub end_at : List ℕ → Result (Option (List Rel)) LineTextFault
end_at word = if bytes_eq word (codes "-") then Ok None else (position_at word >>= λ q. Ok (Some q))

abbrev pub end_word : Option (List Rel) → List ℕ
end_word None = codes "-"
end_word (Some q) = position_word q

-- a bit by its byte, `0` (48) or `1` (49), and bits by theirs
abbrev pub bit_with : ℕ → Option Bool
bit_with byte = if byte == 48 then Some false else (if byte == 49 then Some true else None)

abbrev pub bit_byte : Bool → ℕ
bit_byte bit = if bit then 49 else 48

abbrev pub bits_at : List ℕ → Result (List Bool) LineTextFault
bits_at word = ok_or (spelled_in bit_with word) BadLine

-- the elements of a set, with a comma (44) between two; the empty set is a `-`
abbrev pub elements_at : List ℕ → Result (List ℕ) LineTextFault
elements_at [] = Err BadLine
elements_at (first ∷ others) =
    if bytes_eq (first ∷ others) (codes "-") then Ok [] else ok_or (each_in small_in (words_of 44 (first ∷ others))) BadNumber

abbrev pub elements_word : List ℕ → List ℕ
elements_word [] = codes "-"
elements_word (x ∷ xs) = join_with_byte 44 (map decimal (x ∷ xs))

-- the sets of all words
abbrev pub sets_of : List (List ℕ) → Result (List (List ℕ)) LineTextFault
sets_of [] = Ok []
sets_of (word ∷ words) = elements_at word >>= λ set. sets_of words >>= λ others. Ok (set ∷ others)

-- a family: a number, and a set in each further word
unfoldable pub family_of : List (List ℕ) → Result Family LineTextFault
family_of words = taken (item_at small_in) words >>= λ universe. sets_of universe.1 >>= λ sets. Ok (record { universe = universe.0; sets = sets })

abbrev pub family_words : Family → List (List ℕ)
family_words f = decimal f.universe ∷ map elements_word f.sets

-- the subject of a claim: `m PAIR LETTER` or `a BITS`
unfoldable pub narrowed_of : List (List ℕ) → Result (Subject × List (List ℕ)) LineTextFault
narrowed_of words = taken (item_at small_in) words >>= λ pair. taken relation_at pair.1 >>= λ rel. Ok (Narrowed pair.0 rel.0, rel.1)

unfoldable pub kept_of : List (List ℕ) → Result (Subject × List (List ℕ)) LineTextFault
kept_of words = taken bits_at words >>= λ bits. Ok (Kept bits.0, bits.1)

unfoldable pub subject_of : List (List ℕ) → Result (Subject × List (List ℕ)) LineTextFault
subject_of [] = Err BadLine
subject_of (word ∷ words) =
    if bytes_eq word (codes "m") then narrowed_of words else (if bytes_eq word (codes "a") then kept_of words else Err BadLine)

abbrev pub subject_words : Subject → List (List ℕ)
subject_words (Narrowed pair rel) = codes "m" ∷ decimal pair ∷ (letter_of rel ∷ []) ∷ []
subject_words (Kept bits) = codes "a" ∷ spelled bit_byte bits ∷ []

-- the three switches, behind the number of the version
unfoldable pub switches_of : List (List ℕ) → Result (Switches × List (List ℕ)) LineTextFault
switches_of words =
    taken switch_at words >>= λ nonempty. taken switch_at nonempty.1 >>= λ sibling. taken switch_at sibling.1 >>= λ coverage.
    Ok (record { nonempty = nonempty.0; sibling = sibling.0; coverage = coverage.0 }, coverage.1)

unfoldable pub version_of : List (List ℕ) → Result (Switches × List (List ℕ)) LineTextFault
version_of [] = Err BadLine
version_of (word ∷ words) = if bytes_eq word (codes "1") then switches_of words else Err BadLine

abbrev pub version_words : Switches → List (List ℕ)
version_words s = codes "1" ∷ switch_word s.nonempty ∷ switch_word s.sibling ∷ switch_word s.coverage ∷ []

-- a node: its depth, and the last relation on the way to it
unfoldable pub node_of : List (List ℕ) → Result ((ℕ × Option Rel) × List (List ℕ)) LineTextFault
node_of words = taken (item_at small_in) words >>= λ depth. taken last_at depth.1 >>= λ last. Ok ((depth.0, last.0), last.1)

abbrev pub node_words : ℕ → Option Rel → List (List ℕ)
node_words depth last = decimal depth ∷ last_word last ∷ []

-- a line, where no word is left
abbrev pub ended : List (List ℕ) → CertLine → Result CertLine LineTextFault
ended [] line = Ok line
ended (word ∷ words) line = Err BadLine

-- a line of each kind from the words after its first
unfoldable pub certificate_of : List (List ℕ) → Result CertLine LineTextFault
certificate_of words = version_of words >>= λ switches. taken position_at switches.1 >>= λ from. ended from.1 (Certificate switches.0 from.0)

unfoldable pub claims_of : List (List ℕ) → Result CertLine LineTextFault
claims_of words = version_of words >>= λ switches. ended switches.1 (Claims switches.0)

unfoldable pub branch_of : List (List ℕ) → Result CertLine LineTextFault
branch_of words = node_of words >>= λ node. ended node.1 (Branch node.0.0 node.0.1)

unfoldable pub no_point_of : List (List ℕ) → Result CertLine LineTextFault
no_point_of words =
    node_of words >>= λ node. taken (item_at large_in) node.1 >>= λ need. taken (item_at id_in) need.1 >>= λ clause.
    ended clause.1 (NoPoint node.0.0 node.0.1 need.0 clause.0)

unfoldable pub no_relation_of : List (List ℕ) → Result CertLine LineTextFault
no_relation_of words = node_of words >>= λ node. taken (item_at small_in) node.1 >>= λ pair. ended pair.1 (NoRelation node.0.0 node.0.1 pair.0)

unfoldable pub world_of : List (List ℕ) → Result CertLine LineTextFault
world_of words = node_of words >>= λ node. family_of node.1 >>= λ family. Ok (World node.0.0 node.0.1 family)

unfoldable pub holds_of : List (List ℕ) → Result CertLine LineTextFault
holds_of words = subject_of words >>= λ subject. family_of subject.1 >>= λ family. Ok (Holds subject.0 family)

unfoldable pub fails_of : List (List ℕ) → Result CertLine LineTextFault
fails_of words = subject_of words >>= λ subject. ended subject.1 (Fails subject.0)

unfoldable pub end_of : List (List ℕ) → Result CertLine LineTextFault
end_of words = taken end_at words >>= λ to. ended to.1 (End to.0)

-- a line of a kind from the words after its first
abbrev pub rest_of : LineKind → List (List ℕ) → Result CertLine LineTextFault
rest_of kind.Certificate words = certificate_of words
rest_of kind.Claims words = claims_of words
rest_of kind.Derive words = derive_of words >>= λ line. Ok (Proof line)
rest_of kind.Forget words = forget_of words >>= λ line. Ok (Proof line)
rest_of kind.Branch words = branch_of words
rest_of kind.NoPoint words = no_point_of words
rest_of kind.NoRelation words = no_relation_of words
rest_of kind.World words = world_of words
rest_of kind.Holds words = holds_of words
rest_of kind.Fails words = fails_of words
rest_of kind.End words = end_of words
rest_of kind.Quit words = ended words Quit
rest_of kind.Done words = ended words Done

-- the first word of each kind of line, and the kind whose first word it is
abbrev pub kind_word : LineKind → List ℕ
kind_word kind.Certificate = codes "certificate"
kind_word kind.Claims = codes "claims"
kind_word kind.Derive = codes "d"
kind_word kind.Forget = codes "k"
kind_word kind.Branch = codes "b"
kind_word kind.NoPoint = codes "x"
kind_word kind.NoRelation = codes "e"
kind_word kind.World = codes "w"
kind_word kind.Holds = codes "some"
kind_word kind.Fails = codes "none"
kind_word kind.End = codes "end"
kind_word kind.Quit = codes "quit"
kind_word kind.Done = codes "done"

abbrev pub all_kinds : List LineKind
all_kinds =
    kind.Certificate ∷ kind.Claims ∷ kind.Derive ∷ kind.Forget ∷ kind.Branch ∷ kind.NoPoint ∷ kind.NoRelation ∷ kind.World ∷ kind.Holds ∷ kind.Fails ∷
    kind.End ∷ kind.Quit ∷ kind.Done ∷ []

unfoldable pub kind_in : List ℕ → Option LineKind
kind_in word = find (λ kind. bytes_eq word (kind_word kind)) all_kinds

-- a line from its words
unfoldable pub cert_line_of_words : List (List ℕ) → Result CertLine LineTextFault
cert_line_of_words [] = Err BadLine
cert_line_of_words (word ∷ words) = ok_or (kind_in word) BadLine >>= λ kind. rest_of kind words

-- the line that bytes spell, or the first fault from the left
abbrev pub cert_line_of : List ℕ → Result CertLine LineTextFault
cert_line_of bytes = cert_line_of_words (words_of 32 bytes)

-- the words of a line
abbrev pub cert_words : CertLine → List (List ℕ)
cert_words (Certificate switches from) = codes "certificate" ∷ version_words switches ++ position_word from ∷ []
cert_words (Claims switches) = codes "claims" ∷ version_words switches
cert_words (Proof line) = line_words line
cert_words (Branch depth last) = codes "b" ∷ node_words depth last
cert_words (NoPoint depth last need clause) = codes "x" ∷ node_words depth last ++ decimal need ∷ decimal clause ∷ []
cert_words (NoRelation depth last pair) = codes "e" ∷ node_words depth last ++ decimal pair ∷ []
cert_words (World depth last family) = codes "w" ∷ node_words depth last ++ family_words family
cert_words (Holds subject family) = codes "some" ∷ subject_words subject ++ family_words family
cert_words (Fails subject) = codes "none" ∷ subject_words subject
cert_words (End to) = codes "end" ∷ end_word to ∷ []
cert_words Quit = codes "quit" ∷ []
cert_words Done = codes "done" ∷ []

-- a line as text, without its LF: its words with one space between two
abbrev pub cert_text : CertLine → List ℕ
cert_text line = join_with_byte 32 (cert_words line)

-- the clause ids and hints of a line are at least 1
abbrev pub IdsFromOne : CertLine → Type 0
IdsFromOne (Certificate switches from) = ⊤
IdsFromOne (Claims switches) = ⊤
IdsFromOne (Proof line) = FromOne line
IdsFromOne (Branch depth last) = ⊤
IdsFromOne (NoPoint depth last need clause) = 1 ≤ clause
IdsFromOne (NoRelation depth last pair) = ⊤
IdsFromOne (World depth last family) = ⊤
IdsFromOne (Holds subject family) = ⊤
IdsFromOne (Fails subject) = ⊤
IdsFromOne (End to) = ⊤
IdsFromOne Quit = ⊤
IdsFromOne Done = ⊤

-- the numbers of a family, or of a subject, are below 2 ^ 32
abbrev pub IsSmallFamily : Family → Type 0
IsSmallFamily f = (f.universe < 2 ^ 32) × All (λ set. All (λ x. x < 2 ^ 32) set) f.sets

abbrev pub IsSmallSubject : Subject → Type 0
IsSmallSubject (Narrowed pair rel) = pair < 2 ^ 32
IsSmallSubject (Kept bits) = ⊤

-- the numbers of a line are such as its text may have
abbrev pub IsCertLine : CertLine → Type 0
IsCertLine (Certificate switches from) = ⊤
IsCertLine (Claims switches) = ⊤
IsCertLine (Proof line) = IsLine line
IsCertLine (Branch depth last) = depth < 2 ^ 32
IsCertLine (NoPoint depth last need clause) = (depth < 2 ^ 32) × (need < 2 ^ 64) × IsId clause
IsCertLine (NoRelation depth last pair) = (depth < 2 ^ 32) × (pair < 2 ^ 32)
IsCertLine (World depth last family) = (depth < 2 ^ 32) × IsSmallFamily family
IsCertLine (Holds subject family) = IsSmallSubject subject × IsSmallFamily family
IsCertLine (Fails subject) = IsSmallSubject subject
IsCertLine (End to) = ⊤
IsCertLine Quit = ⊤
IsCertLine Done = ⊤
