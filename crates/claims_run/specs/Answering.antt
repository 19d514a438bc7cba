-- What the commands answer that settle questions by claims: what remains possible, what is in conflict, and which sets of articulations are.
use Rattle.std.specs.Prelude.{◌≡◌, ◌↔◌, ◌≤◌, ℕ, ◌+◌, ◌^◌, Bool, true, false, nat_lt, List, [], ◌∷◌, ◌++◌, length, flat_map, Option, IfSome, IsTrue, Result, Ok, Err, All, Contains, codes, decimal}
use Rattle.std.specs.Option.{option_to_list}
use Rattle.outer_store.specs.Contents.{Contents}
use Rattle.rcc5_core.specs.RelationSet.{has}
use Rattle.world_model.specs.declared.Switches.{Switches}
use Rattle.world_model.specs.declared.Articulation.{Articulation}
use Rattle.world_model.specs.Problem.{Problem, cross_pairs}
use Rattle.world_model.specs.Questions.{IsMet, IsLeastConflict}
use Rattle.cleantax_text.specs.declared.TextKind.{TextKind}
use Rattle.cleantax_text.specs.Reading.{text_result}
use Rattle.cleantax_text.specs.Canonical.{articulation_text}
use Rattle.proof_text.specs.Words.{spelled}
use Rattle.cert_text.specs.declared.line.Subject.TheVariants.{Kept}
use Rattle.cert_text.specs.declared.line.CertLine.{CertLine}
use Rattle.cert_text.specs.declared.line.CertLine.TheVariants.{Claims}
use Rattle.cert_text.specs.Lines.{bit_byte}
use Rattle.cert_reader.specs.Reading.{reading}
use Rattle.cert_rules.specs.Listings.{Going}
use Rattle.cert_rules.specs.ClaimLists.{Claim, claim_start}
use Rattle.cert_rules.specs.Files.{Accepts, ClaimList}
use Rattle.split_search.specs.Claiming.{AllClaimBranchesAlive}
use Rattle.pick_search.specs.Blocks.Blocks.{claimed}
use Rattle.mir_report.specs.Possible.{ArePossibleSets, mir_claims}
use Rattle.conflict_min.specs.Conflicts.{all_kept, places_from, conflict_claims}
use Rattle.conflict_lattice.specs.Subsets.{Subsets}
use Rattle.conflict_lattice.specs.Lattice.{IsLattice, lattice_claims}
use Rattle.world_watch.specs.Kinds.{set_at, seen_lines}
use Rattle.run_ends.specs.declared.Status.{Status}
use Rattle.run_ends.specs.declared.Status.TheVariants as status
use Rattle.run_ends.specs.Ends.{line_of, end_line}
use Rattle.command_line.specs.Requests.{Names}
use Rattle.run_ends.specs.Runs.{File, file_under}
use Rattle.cert_rules.specs.Parts.Certs.{cert_answer}
use Rattle.claims_run.specs.declared.question.Question.{Question}
use Rattle.claims_run.specs.declared.question.Question.TheVariants as question
use Rattle.claims_run.specs.declared.question.Answer.{Answer}
use Rattle.claims_run.specs.declared.question.Answer.TheVariants.{Possible, Consistent, Conflict, Lattice}

-- the question to which something is an answer
abbrev pub question_of : Answer → Question
question_of (Possible mir some) = question.Relations
question_of Consistent = question.Conflicts
question_of (Conflict kept) = question.Conflicts
question_of (Lattice s) = question.Lattice

-- an answer is true: the sets are those of the possible relations, and it is told whether there is a world; the articulations hold
-- together; the flags are those of the least conflict; or the lists are all minimal conflicts and all maximal consistent sets
abbrev pub IsTrueOf : Problem → Answer → Type 0
IsTrueOf p (Possible mir some) = ArePossibleSets p mir.sets.items × (IsTrue some ↔ IsMet p)
IsTrueOf p Consistent = IsMet p
IsTrueOf p (Conflict kept) = IsLeastConflict p kept
IsTrueOf p (Lattice s) = IsLattice p s

-- an answer is right: it is one to the question, and is true
abbrev pub IsRight : Problem → Question → Answer → Type 0
IsRight p asked answer = (question_of answer ≡ asked) × IsTrueOf p answer

-- whether a problem has more articulations than a question takes
abbrev pub has_too_many : Problem → Question → Bool
has_too_many p question.Relations = false
has_too_many p question.Conflicts = false
has_too_many p question.Lattice = nat_lt 128 (length p.articulations)

-- a line of a word and a count
abbrev pub count_line : List ℕ → ℕ → List ℕ
count_line word count = line_of (word ++ 32 ∷ decimal count)

-- an articulation's line: its number and its canonical text
abbrev pub numbered_line : Problem → ℕ → Articulation → List ℕ
numbered_line p number a = line_of (decimal number ++ (codes " " ++ articulation_text p a))

-- the lines of the articulations whose flag is true, the first of which has a number
abbrev pub numbered_lines : Problem → ℕ → List Articulation → List Bool → List ℕ
numbered_lines p number [] flags = []
numbered_lines p number (a ∷ more) [] = []
numbered_lines p number (a ∷ more) (true ∷ flags) = numbered_line p number a ++ numbered_lines p (number + 1) more flags
numbered_lines p number (a ∷ more) (false ∷ flags) = numbered_lines p (number + 1) more flags

-- the line of a set of articulations: `0` or `1` for each, or `.` where there are none
abbrev pub set_line : List Bool → List ℕ
set_line kept = line_of (spelled bit_byte kept)

-- how many sets there are, and the line of each
abbrev pub sets_text : List ℕ → List (List Bool) → List ℕ
sets_text word sets = count_line word (length sets) ++ flat_map set_line sets

-- the last line of two lists of sets
abbrev pub lattice_line : Subsets → List ℕ
lattice_line s = line_of (codes "lattice " ++ (decimal (length s.conflicts) ++ 32 ∷ decimal (length s.consistent)))

-- all minimal conflicts, all maximal consistent sets, and how many there are of each
abbrev pub lattice_text : Subsets → List ℕ
lattice_text s = sets_text (codes "conflicts") s.conflicts ++ (sets_text (codes "consistent") s.consistent ++ lattice_line s)

-- what is put of an answer
abbrev pub answer_text : Problem → Answer → List ℕ
answer_text p (Possible mir some) = seen_lines p (λ k. has (set_at mir.sets.items k)) ++ count_line (codes "mir") (length (cross_pairs p))
answer_text p Consistent = line_of (codes "consistent")
answer_text p (Conflict kept) = count_line (codes "conflict") (length (places_from 0 kept)) ++ numbered_lines p 1 p.articulations kept
answer_text p (Lattice s) = lattice_text s

-- how a run with it ends
abbrev pub answer_status : Answer → Status
answer_status (Possible mir true) = status.Done
answer_status (Possible mir false) = status.NoWorld
answer_status Consistent = status.Consistent
answer_status (Conflict kept) = status.Done
answer_status (Lattice s) = status.Done

-- what is claimed of it: for each pair across taxonomies and each relation that it allows, whether that is possible, and where there is no
-- such pair, whether a family meets the problem; that all articulations hold together; that those of the conflict do not, and do
-- without any one of them; or that no minimal conflict does, and each maximal consistent set does
abbrev pub IsClaimed : Problem → Answer → List Claim → Type 0
IsClaimed p (Possible mir some) claims = claims ≡ mir_claims p mir.sets.items some
IsClaimed p Consistent claims = claims ≡ claimed (Kept (all_kept p)) true
IsClaimed p (Conflict kept) claims = All (Contains claims) (conflict_claims kept)
IsClaimed p (Lattice s) claims = claims ≡ lattice_claims s

-- bytes are accepted with just these claims, and each branch among the lines that are read from them stands at an alive node
pub record ArePrunedClaims (p : Problem) (claims : List Claim) (bytes : List ℕ) : Type 0 where
  pub accepted : cert_answer p bytes ≡ Accepts (ClaimList claims)
  pub lines : List CertLine
  pub read : (reading bytes).lines ≡ Claims p.switches ∷ lines
  pub alive : AllClaimBranchesAlive p (Going 1 (claim_start p)) lines

-- bytes are a certificate of claims of which a fact is so: up to as many as are checked
abbrev pub IsClaimsCert : Problem → (List Claim → Type 0) → List ℕ → Type 0
IsClaimsCert p IsMade bytes = (claims : List Claim) × IsMade claims × (length bytes ≤ 2 ^ 36 → ArePrunedClaims p claims bytes)

-- a right answer is put, and its certificate is what is written, under a name that told its bytes
pub record IsAnswerPut (p : Problem) (asked : Question) (cert : Option (List ℕ)) (held : Contents) (status : Status) (text : List ℕ) (files : List File) : Type 0 where
  pub answer : Answer
  pub right : IsRight p asked answer
  pub put : text ≡ answer_text p answer
  pub ended : status ≡ answer_status answer
  pub bytes : Option (List ℕ)
  pub certified : IfSome cert (λ name. IfSome (held name) (λ _. IfSome bytes (IsClaimsCert p (IsClaimed p answer))))
  pub written : files ≡ file_under cert bytes

-- what comes of a problem, by whether it has more articulations than the question takes: then that is put, and nothing is written
abbrev pub IsAnswerAbout : Bool → Problem → Question → Option (List ℕ) → Contents → Status → List ℕ → List File → Type 0
IsAnswerAbout false p asked cert held ended text files = IsAnswerPut p asked cert held ended text files
IsAnswerAbout true p asked cert held ended text files = (ended ≡ status.TooMany) × (text ≡ end_line status.TooMany) × (files ≡ [])

-- what comes of a problem's text
abbrev pub IsAnswerBy : Result Problem (ℕ × TextKind) → Question → Option (List ℕ) → Contents → Status → List ℕ → List File → Type 0
IsAnswerBy (Ok p) asked cert held ended text files = IsAnswerAbout (has_too_many p asked) p asked cert held ended text files
IsAnswerBy (Err fault) asked cert held ended text files =
    (ended ≡ status.RefusedText fault.0 fault.1) × (text ≡ end_line (status.RefusedText fault.0 fault.1)) × (files ≡ [])

-- the answers to a question about the problem under a name
pub record IsClaimsAnswer (asked : Question) (input : List ℕ) (cert : Option (List ℕ)) (switches : Switches) (held : Contents) (status : Status) (text : List ℕ) (files : List File) : Type 0 where
  pub bytes : List ℕ
  pub told : IfSome (held input) (λ all. bytes ≡ all)
  pub answer : IsAnswerBy (text_result bytes switches) asked cert held status text files

-- the name that it reads, and the one that it may write
abbrev pub claims_names : List ℕ → Option (List ℕ) → Names
claims_names input cert = record { read = input ∷ []; written = option_to_list cert }
