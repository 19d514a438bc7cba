-- What holds of each request that words make, and the files that it names.
use Rattle.std.specs.Prelude.{◌≡◌, ◌≢◌, ◌≤◌, ℕ, ◌%◌, false, List, [], ◌∷◌, ◌++◌, flat_map, decimal, Option, Some, None, IfNone, ⊤}
use Rattle.std.specs.Option.{option_to_list}
use Rattle.command_line.specs.declared.request.AlignArgs.{AlignArgs}
use Rattle.command_line.specs.declared.request.PartsArgs.{PartsArgs}
use Rattle.command_line.specs.declared.request.PartArgs.{PartArgs}
use Rattle.command_line.specs.declared.request.TrialArgs.{TrialArgs}
use Rattle.command_line.specs.declared.request.DeskArgs.{DeskArgs}
use Rattle.command_line.specs.declared.request.Request.{Request}
use Rattle.command_line.specs.declared.request.Request.TheVariants.{Align, Check, Mir, Conflict, Lattice, Explain, Report, Parts, Part, Join, Trial}
use Rattle.command_line.specs.declared.table.Key.{Key}
use Rattle.command_line.specs.declared.table.KeyKind.{KeyKind}
use Rattle.command_line.specs.declared.table.Command.{Command}
use Rattle.command_line.specs.declared.Operand.{Operand}
use Rattle.command_line.specs.Table.{row_of, desk_row, kind_of}
use Rattle.command_line.specs.Words.{names_fault, names_by, value_of, is_lacking, request_for, desk_args}

-- two names, where both are given, are not one
abbrev pub AreApart : Option (List ℕ) → Option (List ℕ) → Type 0
AreApart None other = ⊤
AreApart (Some name) None = ⊤
AreApart (Some name) (Some other) = name ≢ other

-- a listing that words ask for: the token that it reads is not its problem, a limit has a token to be written, and the files that
-- it writes are two
pub record IsAlign (args : AlignArgs) : Type 0 where
  pub apart : AreApart (Some args.input) args.resume
  pub limited : IfNone args.token ((args.nodes ≡ None) × (args.worlds ≡ None))
  pub two : AreApart args.cert args.token

-- parts that words ask for: their number is within its range, and the problem's file is not one that a token may be written to
pub record IsParts (args : PartsArgs) : Type 0 where
  pub least : 1 ≤ args.count
  pub most : args.count ≤ 1000
  pub apart : (k : ℕ) → 1 ≤ k → k ≤ 5000 → args.input ≢ args.token ++ decimal k

-- a part that words ask for: the files that it reads are different
pub record IsPart (args : PartArgs) : Type 0 where
  pub resumed : AreApart (Some args.input) args.resume
  pub ended : AreApart (Some args.input) args.until
  pub two : AreApart args.resume args.until

-- a trial that words ask for: its size is even and within its range
pub record IsTrial (args : TrialArgs) : Type 0 where
  pub even : args.size % 2 ≡ 0
  pub least : 14 ≤ args.size
  pub most : args.size ≤ 256

-- what holds of each request that words make, by the names of reports that are known
abbrev pub IsMade : List (List ℕ) → Request → Type 0
IsMade known (Align args) = IsAlign args
IsMade known (Check args) = ⊤
IsMade known (Mir args) = ⊤
IsMade known (Conflict args) = ⊤
IsMade known (Lattice args) = ⊤
IsMade known (Explain args) = ⊤
IsMade known (Report args) = names_fault known args.kinds ≡ None
IsMade known (Parts args) = IsParts args
IsMade known (Part args) = IsPart args
IsMade known (Join args) = ⊤
IsMade known (Trial args) = IsTrial args

-- the names of the files that a command reads, and of those that it may write
pub record Names : Type 0 where
  pub read : List (List ℕ)
  pub written : List (List ℕ)

-- those of a request; which files `parts` writes depends on the beginnings that it finds
abbrev pub names_of : Request → Names
names_of (Align args) = record { read = args.input ∷ option_to_list args.resume; written = option_to_list args.cert ++ option_to_list args.token }
names_of (Check args) = record { read = args.input ∷ args.cert ∷ []; written = [] }
names_of (Mir args) = record { read = args.input ∷ []; written = option_to_list args.cert }
names_of (Conflict args) = record { read = args.input ∷ []; written = option_to_list args.cert }
names_of (Lattice args) = record { read = args.input ∷ []; written = option_to_list args.cert }
names_of (Explain args) = record { read = args.input ∷ []; written = [] }
names_of (Report args) = record { read = args.input ∷ []; written = [] }
names_of (Parts args) = record { read = args.input ∷ []; written = [] }
names_of (Part args) = record { read = args.input ∷ option_to_list args.resume ++ option_to_list args.until; written = args.cert ∷ [] }
names_of (Join args) = record { read = args.input ∷ args.certs; written = [] }
names_of (Trial args) = record { read = []; written = [] }

-- and those of the desk, which writes none
abbrev pub desk_names : DeskArgs → Names
desk_names args = record { read = args.input ∷ args.script ∷ []; written = [] }

-- the file names that operands give under some keys
abbrev pub names_given : KeyKind → Option (List ℕ) → List (List ℕ)
names_given kind None = []
names_given kind (Some value) = names_by kind value

abbrev pub names_under : List Operand → List Key → List (List ℕ)
names_under operands keys = flat_map (λ key. names_given (kind_of key) (value_of operands key)) keys

-- a request names just the files that its operands give under the keys of its command's row
abbrev pub RowsNameFiles : Type 0
RowsNameFiles = (c : Command) (operands : List Operand) → is_lacking (row_of c) operands ≡ false →
    names_of (request_for c operands) ≡ record { read = names_under operands (row_of c).reads; written = names_under operands (row_of c).writes }

-- and so does what is asked of the desk, by its row
abbrev pub DeskRowNamesFiles : Type 0
DeskRowNamesFiles = (operands : List Operand) → is_lacking desk_row operands ≡ false →
    desk_names (desk_args operands) ≡ record { read = names_under operands desk_row.reads; written = names_under operands desk_row.writes }
