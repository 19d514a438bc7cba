-- What people are told besides: the words that there are, and where a fault of a text stands.
use Rattle.std.specs.Prelude.{ℕ, ◌==◌, if◌then◌else◌, List, [], ◌∷◌, ◌++◌, flat_map, codes, decimal}
use Rattle.command_line.specs.declared.table.Command.{Command}
use Rattle.command_line.specs.declared.table.Key.{Key}
use Rattle.command_line.specs.declared.table.KeyKind.{KeyKind}
use Rattle.command_line.specs.declared.table.KeyKind.TheVariants.{Switch, FileName, FileNames, ReportNames, Text, Letters, Limit, Number, EvenNumber}
use Rattle.command_line.specs.Table.{Row, row_of, all_commands, key_name, kind_of}

-- how a value is shown
abbrev pub value_form : KeyKind → List ℕ
value_form Switch = codes "on|off"
value_form FileName = codes "FILE"
value_form FileNames = codes "FILE,.."
value_form ReportNames = codes "KIND,.."
value_form Text = codes "TEXT"
value_form Letters = codes "LETTERS"
value_form Limit = codes "NUMBER"
value_form (Number least most) = codes "NUMBER"
value_form (EvenNumber least most) = codes "NUMBER"

-- how a key is shown, with its value
abbrev pub key_form : Key → List ℕ
key_form key = key_name key ++ (codes "=" ++ value_form (kind_of key))

-- a key that has to be given, and one that may be left out
abbrev pub required_form : Key → List ℕ
required_form key = codes " " ++ key_form key

abbrev pub optional_form : Key → List ℕ
optional_form key = codes " [" ++ (key_form key ++ codes "]")

-- a command's line: its name and its keys
abbrev pub row_form : Row → List ℕ
row_form row = codes "  " ++ (row.name ++ (flat_map required_form row.required ++ (flat_map optional_form row.optional ++ 10 ∷ [])))

abbrev pub command_form : Command → List ℕ
command_form command = row_form (row_of command)

-- the help: a line for each command of the table
abbrev pub usage_help : List ℕ
usage_help = codes "the words are a command and its keys; keys in brackets may be left out:\n" ++ flat_map command_form all_commands

-- the line within a file; nothing, where the file as a whole is meant
abbrev pub line_form : ℕ → List ℕ
line_form line = if line == 0 then [] else codes ":" ++ decimal line

-- where a fault stands: FILE:LINE: or FILE:
abbrev pub fault_place : List ℕ → ℕ → List ℕ
fault_place file line = file ++ (line_form line ++ codes ": ")
