-- What the command answers that joins parts of a listing.
use Rattle.std.specs.Prelude.{◌≡◌, ◌==◌, ℕ, List, [], ◌∷◌, ◌++◌, length, flat_map, Result, Ok, Err, if◌then◌else◌, codes, decimal}
use Rattle.outer_store.specs.Contents.{Contents}
use Rattle.rcc5_core.specs.declared.Rel.{Rel}
use Rattle.world_model.specs.Problem.{Problem}
use Rattle.cleantax_text.specs.declared.TextKind.{TextKind}
use Rattle.cleantax_text.specs.Reading.{text_result}
use Rattle.cert_reader.specs.Bytes.{MayHold}
use Rattle.part_join.specs.Joining.{IsJoin, MayHoldAll}
use Rattle.part_join.specs.declared.fault.JoinFault.{JoinFault}
use Rattle.part_join.specs.declared.fault.JoinFault.TheVariants as fault
use Rattle.command_line.specs.Requests.{Names}
use Rattle.command_line.specs.declared.request.JoinArgs.{JoinArgs}
use Rattle.run_ends.specs.declared.Status.{Status}
use Rattle.run_ends.specs.declared.Status.TheVariants.{Done, NoWorld, RefusedText, PartRefused, Gap}
use Rattle.run_ends.specs.Ends.{line_of, world_line}
use Rattle.run_ends.specs.Runs.{File, IsEndAlone}

-- the last line, of so many worlds
abbrev pub joined_line : ℕ → List ℕ
joined_line count = line_of (codes "joined " ++ decimal count)

-- what is put of all possible worlds: a line each, and how many they are
abbrev pub joined_text : List (List Rel) → List ℕ
joined_text worlds = flat_map world_line worlds ++ joined_line (length worlds)

-- how a run ends that put so many
abbrev pub joined_status : ℕ → Status
joined_status count = if count == 0 then NoWorld else Done

-- what comes of a join: its worlds are put, or the line that says which part is refused or where there is a gap
abbrev pub IsEndOf : Result (List (List Rel)) JoinFault → Status → List ℕ → List File → Type 0
IsEndOf (Ok worlds) status text files = (status ≡ joined_status (length worlds)) × (text ≡ joined_text worlds) × (files ≡ [])
IsEndOf (Err (fault.PartRefused number line kind)) status text files = IsEndAlone (PartRefused number line kind) status text files
IsEndOf (Err (fault.Gap from to)) status text files = IsEndAlone (Gap from to) status text files
IsEndOf (Err fault.ReadFault) status text files = ⊥
IsEndOf (Err fault.NoMemory) status text files = ⊥

-- what comes of the certificates of a problem, by what there may be under their names
pub record IsCertsAnswer (p : Problem) (certs : List (List ℕ)) (held : Contents) (status : Status) (text : List ℕ) (files : List File) : Type 0 where
  pub bytes : List (List ℕ)
  pub told : MayHoldAll held certs bytes
  pub result : Result (List (List Rel)) JoinFault
  pub joined : IsJoin p bytes result
  pub ended : IsEndOf result status text files

-- what comes of a problem's text
abbrev pub IsAnswerBy : Result Problem (ℕ × TextKind) → List (List ℕ) → Contents → Status → List ℕ → List File → Type 0
IsAnswerBy (Ok p) certs held status text files = IsCertsAnswer p certs held status text files
IsAnswerBy (Err why) certs held status text files = IsEndAlone (RefusedText why.0 why.1) status text files

-- the answers to a join of the certificates under some names for the problem under another
pub record IsJoinAnswer (args : JoinArgs) (held : Contents) (status : Status) (text : List ℕ) (files : List File) : Type 0 where
  pub bytes : List ℕ
  pub told : MayHold (held args.input) bytes
  pub answer : IsAnswerBy (text_result bytes args.switches) args.certs held status text files

-- the names that it reads; it writes none
abbrev pub join_names : JoinArgs → Names
join_names args = record { read = args.input ∷ args.certs; written = [] }
