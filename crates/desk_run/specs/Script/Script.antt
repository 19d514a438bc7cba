-- What a script asks for: requests, or its first fault with its line.
use Rattle.std.specs.Prelude.{◌≡◌, ℕ, ◌+◌, nat_lt, List, [], ◌∷◌, ◌++◌, length, Result, Ok, Err, if◌then◌else◌, codes}
use Rattle.std.specs.Global.{Vec}
use Rattle.world_model.specs.Problem.{Problem}
use Rattle.text_words.specs.Tokens.{lines_of, words_in}
use Rattle.proof_text.specs.Numbers.{number_in}
use Rattle.desk_run.specs.declared.script.ScriptKind.{ScriptKind}
use Rattle.desk_run.specs.declared.script.ScriptKind.TheVariants.{TooLong, BadLine, BadSlot, BadBits, UnknownConcept, SameConcept, BadLetters}
use Rattle.desk_run.specs.declared.script.ScriptFault.{ScriptFault}
use Rattle.desk_run.specs.declared.script.ScriptFault.TheVariants.{Refused, NoMemory}
use Rattle.desk_run.specs.declared.script.requests.Act.{Act}
use Rattle.desk_run.specs.declared.script.requests.DeskRequest.{DeskRequest}
use Rattle.desk_run.specs.Script.Forms.{form_of}
use Rattle.desk_run.specs.Script.Acts.{need, act_of}

-- an act asked of a slot
abbrev pub asked : ℕ → Result Act ScriptKind → Result DeskRequest ScriptKind
asked slot (Ok act) = Ok (record { slot = slot; act = act })
asked slot (Err kind) = Err kind

-- the request of a line whose first word is the slot, or its first fault
abbrev pub request_of : Problem → List ℕ → List (List ℕ) → Result DeskRequest ScriptKind
request_of p slot words =
    need (form_of words) BadLine (λ form.
    need (number_in 1 16 slot) BadSlot (λ n.
    asked n (act_of p form)))

-- what lines come to: their requests, or the first fault with its line
abbrev pub Outcome : Type 0
Outcome = Result (List DeskRequest) (ℕ × ScriptKind)

-- requests before others
abbrev pub onto : List DeskRequest → Outcome → Outcome
onto requests (Ok others) = Ok (requests ++ others)
onto requests (Err fault) = Err fault

-- a request before those of the lines after it, or a fault with its line
abbrev pub before_rest : ℕ → Result DeskRequest ScriptKind → Outcome → Outcome
before_rest number (Ok request) rest = onto (request ∷ []) rest
before_rest number (Err kind) rest = Err (number, kind)

-- a line by its words; one without words is passed over
abbrev pub with_line : Problem → ℕ → List (List ℕ) → Outcome → Outcome
with_line p number [] rest = rest
with_line p number (slot ∷ words) rest = before_rest number (request_of p slot words) rest

-- what lines come to, where the first of them has this number
abbrev pub script_lines : Problem → ℕ → List (List ℕ) → Outcome
script_lines p number [] = Ok []
script_lines p number (line ∷ lines) = with_line p number (words_in line) (script_lines p (number + 1) lines)

-- what a script comes to; it may have 1,048,576 bytes
abbrev pub script_result : Problem → List ℕ → Outcome
script_result p bytes = if nat_lt 1048576 (length bytes) then Err (0, TooLong) else script_lines p 1 (lines_of bytes)

-- a reader's answer is right, unless memory was wanting
abbrev pub Gives : Result (Vec DeskRequest) ScriptFault → Outcome → Type 0
Gives (Ok requests) right = right ≡ Ok requests.items
Gives (Err (Refused line kind)) right = right ≡ Err (line, kind)
Gives (Err NoMemory) right = Unit {0}

-- the names of faults, as they are printed
abbrev pub kind_name : ScriptKind → List ℕ
kind_name TooLong = codes "TooLong"
kind_name BadLine = codes "BadLine"
kind_name BadSlot = codes "BadSlot"
kind_name BadBits = codes "BadBits"
kind_name UnknownConcept = codes "UnknownConcept"
kind_name SameConcept = codes "SameConcept"
kind_name BadLetters = codes "BadLetters"
