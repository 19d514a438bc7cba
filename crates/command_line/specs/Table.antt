-- The table of commands: a row for each, with its keys and which of them name files; and what each key's value is.
use Rattle.std.specs.Prelude.{ℕ, ◌-◌, ◌^◌, Bool, List, [], ◌∷◌, find, Option, bytes_eq, codes}
use Rattle.command_line.specs.declared.table.Key.{Key}
use Rattle.command_line.specs.declared.table.Key.TheVariants.{In, Cert, Nonempty, Sibling, Coverage, Nodes, Worlds, Token, Resume, Kinds, Seed, Size, Left, Right, Set, Count, Until, Certs, Script}
use Rattle.command_line.specs.declared.table.KeyKind.{KeyKind}
use Rattle.command_line.specs.declared.table.KeyKind.TheVariants.{Switch, FileName, FileNames, ReportNames, Text, Letters, Limit, Number, EvenNumber}
use Rattle.command_line.specs.declared.table.Command.{Command}
use Rattle.command_line.specs.declared.table.Command.TheVariants as command

-- how a key is written
abbrev pub key_name : Key → List ℕ
key_name In = codes "in"
key_name Cert = codes "cert"
key_name Nonempty = codes "nonempty"
key_name Sibling = codes "sibling"
key_name Coverage = codes "coverage"
key_name Nodes = codes "nodes"
key_name Worlds = codes "worlds"
key_name Token = codes "token"
key_name Resume = codes "resume"
key_name Kinds = codes "kinds"
key_name Seed = codes "seed"
key_name Size = codes "size"
key_name Left = codes "left"
key_name Right = codes "right"
key_name Set = codes "set"
key_name Count = codes "count"
key_name Until = codes "until"
key_name Certs = codes "certs"
key_name Script = codes "script"

-- what a key's value is
abbrev pub kind_of : Key → KeyKind
kind_of In = FileName
kind_of Cert = FileName
kind_of Nonempty = Switch
kind_of Sibling = Switch
kind_of Coverage = Switch
kind_of Nodes = Limit
kind_of Worlds = Limit
kind_of Token = FileName
kind_of Resume = FileName
kind_of Kinds = ReportNames
kind_of Seed = Number 0 (2 ^ 64 - 1)
kind_of Size = EvenNumber 14 256
kind_of Left = Text
kind_of Right = Text
kind_of Set = Letters
kind_of Count = Number 1 1000
kind_of Until = FileName
kind_of Certs = FileNames
kind_of Script = FileName

-- whether two keys are one
abbrev pub same_key : Key → Key → Bool
same_key a b = bytes_eq (key_name a) (key_name b)

-- a row of the table of commands: its name, the keys that are required and those that are optional, and which of them name files
-- that it reads or writes
pub record Row : Type 0 where
  pub name : List ℕ
  pub required : List Key
  pub optional : List Key
  pub reads : List Key
  pub writes : List Key

-- the table of commands
abbrev pub row_of : Command → Row
row_of command.Align = record {
  name = codes "align";
  required = In ∷ [];
  optional = Cert ∷ Nonempty ∷ Sibling ∷ Coverage ∷ Nodes ∷ Worlds ∷ Token ∷ Resume ∷ [];
  reads = In ∷ Resume ∷ [];
  writes = Cert ∷ Token ∷ [];
}
row_of command.Check = record {
  name = codes "check";
  required = In ∷ Cert ∷ [];
  optional = Nonempty ∷ Sibling ∷ Coverage ∷ [];
  reads = In ∷ Cert ∷ [];
  writes = [];
}
row_of command.Mir = record {
  name = codes "mir";
  required = In ∷ [];
  optional = Cert ∷ Nonempty ∷ Sibling ∷ Coverage ∷ [];
  reads = In ∷ [];
  writes = Cert ∷ [];
}
row_of command.Conflict = record {
  name = codes "conflict";
  required = In ∷ [];
  optional = Cert ∷ Nonempty ∷ Sibling ∷ Coverage ∷ [];
  reads = In ∷ [];
  writes = Cert ∷ [];
}
row_of command.Lattice = record {
  name = codes "lattice";
  required = In ∷ [];
  optional = Cert ∷ Nonempty ∷ Sibling ∷ Coverage ∷ [];
  reads = In ∷ [];
  writes = Cert ∷ [];
}
row_of command.Explain = record {
  name = codes "explain";
  required = In ∷ Left ∷ Right ∷ Set ∷ [];
  optional = Nonempty ∷ Sibling ∷ Coverage ∷ [];
  reads = In ∷ [];
  writes = [];
}
row_of command.Report = record {
  name = codes "report";
  required = In ∷ Kinds ∷ [];
  optional = Nonempty ∷ Sibling ∷ Coverage ∷ [];
  reads = In ∷ [];
  writes = [];
}
row_of command.Parts = record {
  name = codes "parts";
  required = In ∷ Count ∷ Token ∷ [];
  optional = Nonempty ∷ Sibling ∷ Coverage ∷ [];
  reads = In ∷ [];
  writes = [];
}
row_of command.Part = record {
  name = codes "part";
  required = In ∷ Cert ∷ [];
  optional = Nonempty ∷ Sibling ∷ Coverage ∷ Resume ∷ Until ∷ [];
  reads = In ∷ Resume ∷ Until ∷ [];
  writes = Cert ∷ [];
}
row_of command.Join = record {
  name = codes "join";
  required = In ∷ Certs ∷ [];
  optional = Nonempty ∷ Sibling ∷ Coverage ∷ [];
  reads = In ∷ Certs ∷ [];
  writes = [];
}
row_of command.Trial = record {
  name = codes "trial";
  required = Seed ∷ Size ∷ [];
  optional = [];
  reads = [];
  writes = [];
}

-- the row of the desk, whose program has no commands: its name is the program's
abbrev pub desk_row : Row
desk_row = record {
  name = codes "euler_desk";
  required = In ∷ Script ∷ [];
  optional = Nonempty ∷ Sibling ∷ Coverage ∷ [];
  reads = In ∷ Script ∷ [];
  writes = [];
}

-- the commands, in the order of the table
abbrev pub all_commands : List Command
all_commands = command.Align ∷ command.Check ∷ command.Mir ∷ command.Conflict ∷ command.Lattice ∷ command.Explain ∷ command.Report ∷ command.Parts ∷ command.Part ∷ command.Join ∷ command.Trial ∷ []

-- the command with this name
abbrev pub command_named : List ℕ → Option Command
command_named word = find (λ c. bytes_eq word (row_of c).name) all_commands
