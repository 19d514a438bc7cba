-- The words of the command line: a request, or the first usage fault.
use Rattle.std.specs.Prelude.{ℕ, ◌==◌, ◌%◌, Bool, true, false, not, ◌||◌, ◌&&◌, ◌-◌, ◌^◌, List, [], ◌∷◌, ◌++◌, length, take, drop, find, Option, Some, None, is_some, option_map, option_and_then, unwrap_or, Result, Ok, Err, if◌then◌else◌, bytes_eq, codes, ⊤}
use Rattle.std.specs.List.{list_any, list_all, flat_map, before_first, after_first}
use Rattle.rcc5_core.specs.declared.RelSet.{RelSet}
use Rattle.rcc5_core.specs.RelationSet.{no_rels}
use Rattle.proof_text.specs.Numbers.{number_in}
use Rattle.proof_text.specs.Words.{words_of}
use Rattle.text_words.specs.Words.{set_of_letters}
use Rattle.world_model.specs.declared.Switches.{Switches}
use Rattle.command_line.specs.declared.table.Key.{Key}
use Rattle.command_line.specs.declared.table.Key.TheVariants.{In, Cert, Nonempty, Sibling, Coverage, Nodes, Worlds, Token, Resume, Kinds, Seed, Size, Left, Right, Set, Count, Until, Certs, Script}
use Rattle.command_line.specs.declared.table.KeyKind.{KeyKind}
use Rattle.command_line.specs.declared.table.KeyKind.TheVariants.{Switch, FileName, FileNames, ReportNames, Text, Letters, Limit, Number, EvenNumber}
use Rattle.command_line.specs.declared.table.Command.{Command}
use Rattle.command_line.specs.declared.table.Command.TheVariants as command
use Rattle.command_line.specs.declared.Operand.{Operand}
use Rattle.command_line.specs.declared.UsageKind.{UsageKind}
use Rattle.command_line.specs.declared.UsageKind.TheVariants.{NoCommand, UnknownCommand, NotOperand, UnknownKey, KeyTwice, BadSwitch, BadNumber, BadSet, ZeroBudget, EmptyName, UnknownKind, KindTwice, MissingKey, BudgetWithoutToken, SameName}
use Rattle.command_line.specs.declared.request.Request.{Request}
use Rattle.command_line.specs.declared.request.Request.TheVariants.{Align, Check, Mir, Conflict, Lattice, Explain, Report, Parts, Part, Join, Trial}
use Rattle.command_line.specs.declared.request.ClaimsArgs.{ClaimsArgs}
use Rattle.command_line.specs.declared.request.ExplainArgs.{ExplainArgs}
use Rattle.command_line.specs.declared.request.DeskArgs.{DeskArgs}
use Rattle.command_line.specs.declared.WordsFault.{WordsFault}
use Rattle.command_line.specs.declared.WordsFault.TheVariants.{Usage, NoMemory}
use Rattle.command_line.specs.Table.{Row, row_of, desk_row, command_named, key_name, kind_of, same_key}

-- whether a byte is =
abbrev pub is_equals : ℕ → Bool
is_equals b = b == 61

-- the key's name and the value of a word: cut at its first =
abbrev pub cut_word : List ℕ → Option (List ℕ × List ℕ)
cut_word word = if list_any is_equals word then Some (before_first is_equals word, after_first is_equals word) else None

-- the fault where the test holds, and else the rest
abbrev pub fail_if : {X : Type 0} → Bool → UsageKind → Result X UsageKind → Result X UsageKind
fail_if test kind rest = if test then Err kind else rest

-- the fault where there is no value, and else what comes of it
abbrev pub need : {X Y : Type 0} → Option X → UsageKind → (X → Result Y UsageKind) → Result Y UsageKind
need None kind further = Err kind
need (Some x) kind further = further x

-- a fault, or what comes of the value
abbrev pub and_then : {X Y : Type 0} → Result X UsageKind → (X → Result Y UsageKind) → Result Y UsageKind
and_then (Ok x) further = further x
and_then (Err kind) further = Err kind

-- the fault, if there is one, and else the rest
abbrev pub unless : {X : Type 0} → Option UsageKind → Result X UsageKind → Result X UsageKind
unless None rest = rest
unless (Some kind) rest = Err kind

-- the first of some keys with this name
abbrev pub key_among : List Key → List ℕ → Option Key
key_among keys name = find (λ key. bytes_eq name (key_name key)) keys

-- the key of a command with this name
abbrev pub key_in : Row → List ℕ → Option Key
key_in row name = key_among (row.required ++ row.optional) name

-- whether a value is that of a switch
abbrev pub is_switch : List ℕ → Bool
is_switch value = bytes_eq value (codes "on") || bytes_eq value (codes "off")

-- the number that a word is, up to the last value of a u64
abbrev pub number_of : List ℕ → Option ℕ
number_of word = number_in 0 (2 ^ 64 - 1) word

-- what is wrong with a number that is a limit
abbrev pub limit_fault : Option ℕ → Option UsageKind
limit_fault None = Some BadNumber
limit_fault (Some number) = if number == 0 then Some ZeroBudget else None

-- what is wrong with a number
abbrev pub number_fault : Option ℕ → Option UsageKind
number_fault None = Some BadNumber
number_fault (Some number) = None

-- what is wrong with a number that must be even
abbrev pub even_fault : Option ℕ → Option UsageKind
even_fault None = Some BadNumber
even_fault (Some number) = if number % 2 == 0 then None else Some BadNumber

-- what is wrong with a set of relations
abbrev pub set_fault : Option RelSet → Option UsageKind
set_fault None = Some BadSet
set_fault (Some set) = None

-- whether a byte is a comma
abbrev pub is_comma : ℕ → Bool
is_comma b = b == 44

-- the names that a value has, with commas between them
abbrev pub names_in : List ℕ → List (List ℕ)
names_in value = words_of 44 value

-- whether a name is one of some names
abbrev pub is_among : List (List ℕ) → List ℕ → Bool
is_among names word = list_any (λ name. bytes_eq word name) names

-- whether a name stands twice
abbrev pub has_twice : List (List ℕ) → Bool
has_twice [] = false
has_twice (name ∷ names) = is_among names name || has_twice names

-- what is wrong with the names of reports, by those that are known
abbrev pub names_fault : List (List ℕ) → List (List ℕ) → Option UsageKind
names_fault known names =
    if not (list_all (is_among known) names) then Some UnknownKind else (if has_twice names then Some KindTwice else None)

-- whether a name is empty
abbrev pub is_empty_name : List ℕ → Bool
is_empty_name name = length name == 0

-- what is wrong with names of files
abbrev pub file_names_fault : List (List ℕ) → Option UsageKind
file_names_fault names = if list_any is_empty_name names then Some EmptyName else None

-- what is wrong with a key's value, by the names of reports that are known
abbrev pub value_fault : List (List ℕ) → KeyKind → List ℕ → Option UsageKind
value_fault known Switch value = if is_switch value then None else Some BadSwitch
value_fault known FileName value = if is_empty_name value then Some EmptyName else None
value_fault known FileNames value = file_names_fault (names_in value)
value_fault known ReportNames value = names_fault known (names_in value)
value_fault known Text value = None
value_fault known Letters value = set_fault (set_of_letters value)
value_fault known Limit value = limit_fault (number_of value)
value_fault known (Number least most) value = number_fault (number_in least most value)
value_fault known (EvenNumber least most) value = even_fault (number_in least most value)

-- whether a key is given
abbrev pub is_given : List Operand → Key → Bool
is_given operands key = list_any (λ operand. same_key operand.key key) operands

-- a further word after some operands
abbrev pub operand_of : List (List ℕ) → Row → List Operand → List ℕ → Result Operand UsageKind
operand_of known row earlier word =
    need (cut_word word) NotOperand (λ cut.
    need (key_in row cut.0) UnknownKey (λ key.
    fail_if (is_given earlier key) KeyTwice (
    unless (value_fault known (kind_of key) cut.1) (
    Ok (record { key = key; value = cut.1 })))))

-- the further words, from the left
abbrev pub operands_of : List (List ℕ) → Row → List Operand → List (List ℕ) → Result (List Operand) UsageKind
operands_of known row earlier [] = Ok earlier
operands_of known row earlier (word ∷ words) =
    and_then (operand_of known row earlier word) (λ operand. operands_of known row (earlier ++ operand ∷ []) words)

-- the value of a key, if it is given
abbrev pub value_of : List Operand → Key → Option (List ℕ)
value_of operands key = option_map (λ operand. operand.value) (find (λ operand. same_key operand.key key) operands)

-- a switch is on where it isn't given
abbrev pub is_on : Option (List ℕ) → Bool
is_on None = true
is_on (Some value) = bytes_eq value (codes "on")

abbrev pub switches_of : List Operand → Switches
switches_of operands = record {
  nonempty = is_on (value_of operands Nonempty);
  sibling = is_on (value_of operands Sibling);
  coverage = is_on (value_of operands Coverage);
}

-- whether a required key is missing
abbrev pub is_lacking : Row → List Operand → Bool
is_lacking row operands = list_any (λ key. not (is_given operands key)) row.required

-- the number of a key, if it is given
abbrev pub limit_of : List Operand → Key → Option ℕ
limit_of operands key = option_and_then number_of (value_of operands key)

-- whether a limit is given, but no token
abbrev pub lacks_token : List Operand → Bool
lacks_token operands = (is_given operands Nodes || is_given operands Worlds) && not (is_given operands Token)

-- the file names that a value of some kind gives
abbrev pub names_by : KeyKind → List ℕ → List (List ℕ)
names_by Switch value = []
names_by FileName value = value ∷ []
names_by FileNames value = names_in value
names_by ReportNames value = []
names_by Text value = []
names_by Letters value = []
names_by Limit value = []
names_by (Number least most) value = []
names_by (EvenNumber least most) value = []

abbrev pub file_names : Operand → List (List ℕ)
file_names operand = names_by (kind_of operand.key) operand.value

-- whether two operands give one file name
abbrev pub has_same_name : List Operand → Bool
has_same_name [] = false
has_same_name (operand ∷ operands) = list_any (is_among (flat_map file_names operands)) (file_names operand) || has_same_name operands

-- whether a word is another with a number from 1 to 5000 behind it
abbrev pub is_numbered : List ℕ → List ℕ → Bool
is_numbered front word = bytes_eq (take (length front) word) front && is_some (number_in 1 5000 (drop (length front) word))

-- whether parts are asked for, and the problem's file is one that a token may be written to
abbrev pub gives_numbered : List Operand → Bool
gives_numbered operands =
    is_given operands Count && is_numbered (unwrap_or (value_of operands Token) []) (unwrap_or (value_of operands In) [])

-- the names of reports, the seed, the size, the set of relations, the number of parts and the names of certificates that are given
abbrev pub kinds_of : List Operand → List (List ℕ)
kinds_of operands = names_in (unwrap_or (value_of operands Kinds) [])

abbrev pub seed_in : List Operand → ℕ
seed_in operands = unwrap_or (limit_of operands Seed) 0

abbrev pub size_in : List Operand → ℕ
size_in operands = unwrap_or (option_and_then (number_in 14 256) (value_of operands Size)) 0

abbrev pub set_in : List Operand → RelSet
set_in operands = unwrap_or (option_and_then set_of_letters (value_of operands Set)) no_rels

abbrev pub count_in : List Operand → ℕ
count_in operands = unwrap_or (option_and_then (number_in 1 1000) (value_of operands Count)) 0

abbrev pub certs_of : List Operand → List (List ℕ)
certs_of operands = names_in (unwrap_or (value_of operands Certs) [])

-- the arguments of a question that is answered by claims
abbrev pub claims_args : List Operand → ClaimsArgs
claims_args operands = record { input = unwrap_or (value_of operands In) []; cert = value_of operands Cert; switches = switches_of operands }

-- the arguments of a question about the relation of a pair
abbrev pub explain_args : List Operand → ExplainArgs
explain_args operands = record {
  input = unwrap_or (value_of operands In) [];
  left = unwrap_or (value_of operands Left) [];
  right = unwrap_or (value_of operands Right) [];
  set = set_in operands;
  switches = switches_of operands;
}

-- the request of a command, whose required keys are given
abbrev pub request_for : Command → List Operand → Request
request_for command.Align operands = Align (record {
  input = unwrap_or (value_of operands In) [];
  cert = value_of operands Cert;
  switches = switches_of operands;
  nodes = limit_of operands Nodes;
  worlds = limit_of operands Worlds;
  token = value_of operands Token;
  resume = value_of operands Resume;
})
request_for command.Check operands = Check (record {
  input = unwrap_or (value_of operands In) [];
  cert = unwrap_or (value_of operands Cert) [];
  switches = switches_of operands;
})
request_for command.Mir operands = Mir (claims_args operands)
request_for command.Conflict operands = Conflict (claims_args operands)
request_for command.Lattice operands = Lattice (claims_args operands)
request_for command.Explain operands = Explain (explain_args operands)
request_for command.Report operands = Report (record {
  input = unwrap_or (value_of operands In) [];
  kinds = kinds_of operands;
  switches = switches_of operands;
})
request_for command.Parts operands = Parts (record {
  input = unwrap_or (value_of operands In) [];
  count = count_in operands;
  token = unwrap_or (value_of operands Token) [];
  switches = switches_of operands;
})
request_for command.Part operands = Part (record {
  input = unwrap_or (value_of operands In) [];
  cert = unwrap_or (value_of operands Cert) [];
  resume = value_of operands Resume;
  until = value_of operands Until;
  switches = switches_of operands;
})
request_for command.Join operands = Join (record {
  input = unwrap_or (value_of operands In) [];
  certs = certs_of operands;
  switches = switches_of operands;
})
request_for command.Trial operands = Trial (record { seed = seed_in operands; size = size_in operands })

-- the request of a command with operands, or what is wrong with them together
abbrev pub request_from : Command → List Operand → Result Request UsageKind
request_from c operands =
    fail_if (is_lacking (row_of c) operands) MissingKey (
    fail_if (lacks_token operands) BudgetWithoutToken (
    fail_if (has_same_name operands || gives_numbered operands) SameName (
    Ok (request_for c operands))))

-- what words ask for, or their first fault, by the names of reports that are known
abbrev pub request_of : List (List ℕ) → List (List ℕ) → Result Request UsageKind
request_of known [] = Err NoCommand
request_of known (word ∷ words) =
    need (command_named word) UnknownCommand (λ c.
    and_then (operands_of known (row_of c) [] words) (λ operands.
    request_from c operands))

-- what operands give the desk, whose required keys are given
abbrev pub desk_args : List Operand → DeskArgs
desk_args operands = record {
  input = unwrap_or (value_of operands In) [];
  script = unwrap_or (value_of operands Script) [];
  switches = switches_of operands;
}

-- what operands ask of the desk, or what is wrong with them together
abbrev pub desk_request_from : List Operand → Result DeskArgs UsageKind
desk_request_from operands =
    fail_if (is_lacking desk_row operands) MissingKey (
    fail_if (has_same_name operands) SameName (
    Ok (desk_args operands)))

-- what words ask of the desk, or their first fault; it knows no reports
abbrev pub desk_request_of : List (List ℕ) → Result DeskArgs UsageKind
desk_request_of words = and_then (operands_of [] desk_row [] words) desk_request_from

-- a fact of the fault of the words that is answered
abbrev pub IfUsage : {X : Type 0} → Result X WordsFault → (UsageKind → Type 0) → Type 0
IfUsage (Ok x) P = ⊤
IfUsage (Err (Usage kind)) P = P kind
IfUsage (Err NoMemory) P = ⊤

-- the names of faults, as they are printed
abbrev pub usage_name : UsageKind → List ℕ
usage_name NoCommand = codes "NoCommand"
usage_name UnknownCommand = codes "UnknownCommand"
usage_name NotOperand = codes "NotOperand"
usage_name UnknownKey = codes "UnknownKey"
usage_name KeyTwice = codes "KeyTwice"
usage_name BadSwitch = codes "BadSwitch"
usage_name BadNumber = codes "BadNumber"
usage_name BadSet = codes "BadSet"
usage_name ZeroBudget = codes "ZeroBudget"
usage_name EmptyName = codes "EmptyName"
usage_name UnknownKind = codes "UnknownKind"
usage_name KindTwice = codes "KindTwice"
usage_name MissingKey = codes "MissingKey"
usage_name BudgetWithoutToken = codes "BudgetWithoutToken"
usage_name SameName = codes "SameName"
