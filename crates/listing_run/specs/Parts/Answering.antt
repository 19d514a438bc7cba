-- What the command answers that cuts a listing into parts.
use Rattle.std.specs.Prelude.{◌≡◌, ◌⊎◌, ℕ, List, [], ◌∷◌, ◌++◌, length, map, flat_map, option_map, IfSome, Result, Ok, Err, codes, decimal}
use Rattle.std.specs.List.{enumerate_from}
use Rattle.outer_store.specs.Contents.{Contents}
use Rattle.outer_store.specs.States.{StoreState, SinkState}
use Rattle.rcc5_core.specs.declared.Rel.{Rel}
use Rattle.world_model.specs.Problem.{Problem}
use Rattle.proof_text.specs.Words.{position_word}
use Rattle.cleantax_text.specs.declared.TextKind.{TextKind}
use Rattle.cleantax_text.specs.Reading.{text_result}
use Rattle.run_ends.specs.Token.Token.{token_text}
use Rattle.command_line.specs.Requests.{Names}
use Rattle.command_line.specs.declared.request.PartsArgs.{PartsArgs}
use Rattle.listing_run.specs.Parts.Beginnings.{AreBeginnings}
use Rattle.run_ends.specs.declared.Status.{Status}
use Rattle.run_ends.specs.declared.Status.TheVariants.{Done, RefusedText}
use Rattle.run_ends.specs.Ends.{line_of}
use Rattle.run_ends.specs.Runs.{File, IsEndAlone, IsRunOf}

-- beginnings with their numbers, from 1 on
abbrev pub numbered : List (List Rel) → List (ℕ × List Rel)
numbered positions = enumerate_from 1 positions

-- the line of a part: its number and its beginning
abbrev pub part_line : ℕ × List Rel → List ℕ
part_line part = line_of (codes "part " ++ (decimal part.0 ++ 32 ∷ position_word part.1))

-- the last line: how many parts there are
abbrev pub parts_line : ℕ → List ℕ
parts_line count = line_of (codes "parts " ++ decimal count)

-- a line for each part, and the last line
abbrev pub parts_text : List (List Rel) → List ℕ
parts_text positions = flat_map part_line (numbered positions) ++ parts_line (length positions)

-- the name of the file of a part's token: the part's number behind the name that is given
abbrev pub token_name : List ℕ → ℕ × List Rel → List ℕ
token_name token part = token ++ decimal part.0

-- that file: the token of the part's beginning, told where the name tells its bytes
abbrev pub token_file : Problem → List ℕ → Contents → ℕ × List Rel → File
token_file p token held part = record { name = token_name token part; bytes = option_map (λ _. token_text p part.1) (held (token_name token part)) }

-- the names of the files of the tokens
abbrev pub token_names : List ℕ → List (List Rel) → List (List ℕ)
token_names token positions = map (token_name token) (numbered positions)

-- the beginnings of a problem's parts are put, and their tokens written
pub record AreParts (p : Problem) (args : PartsArgs) (held : Contents) (status : Status) (text : List ℕ) (files : List File) : Type 0 where
  pub positions : List (List Rel)
  pub begin : AreBeginnings p args.count positions
  pub ended : status ≡ Done
  pub put : text ≡ parts_text positions
  pub written : files ≡ map (token_file p args.token held) (numbered positions)

-- what comes of a problem's text
abbrev pub IsAnswerBy : Result Problem (ℕ × TextKind) → PartsArgs → Contents → Status → List ℕ → List File → Type 0
IsAnswerBy (Ok p) args held status text files = AreParts p args held status text files
IsAnswerBy (Err fault) args held status text files = IsEndAlone (RefusedText fault.0 fault.1) status text files

-- the answers for the problem under a name
pub record IsPartsAnswer (args : PartsArgs) (held : Contents) (status : Status) (text : List ℕ) (files : List File) : Type 0 where
  pub bytes : List ℕ
  pub told : IfSome (held args.input) (λ all. bytes ≡ all)
  pub answer : IsAnswerBy (text_result bytes args.switches) args held status text files

-- the names of the tokens of the beginnings of the problem that is held
pub record AreTokenNames (args : PartsArgs) (held : Contents) (written : List (List ℕ)) : Type 0 where
  pub bytes : List ℕ
  pub told : IfSome (held args.input) (λ all. bytes ≡ all)
  pub problem : Problem
  pub says : text_result bytes args.switches ≡ Ok problem
  pub positions : List (List Rel)
  pub begin : AreBeginnings problem args.count positions
  pub are : written ≡ token_names args.token positions

-- the names that a run has: that of the problem is read, and none is written, or those of the tokens
pub record ArePartsNames (args : PartsArgs) (held : Contents) (names : Names) : Type 0 where
  pub read : names.read ≡ args.input ∷ []
  pub written : (names.written ≡ []) ⊎ AreTokenNames args held names.written

-- a run answers, or ends in another way, with such names
pub record IsPartsRun (args : PartsArgs) (status : Status) (store store' : StoreState) (sink sink' : SinkState) : Type 0 where
  pub names : Names
  pub named : ArePartsNames args store.held names
  pub run : IsRunOf names (IsPartsAnswer args) status store store' sink sink'
