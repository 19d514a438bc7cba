-- Small scripts, and what they ask for.
use Rattle.std.specs.Prelude.{◌≡◌, ℕ, true, false, List, [], ◌∷◌, map, None, Ok, Err, refl, codes}
use Rattle.rcc5_core.specs.declared.Rel.TheVariants.{Equals, Includes, Overlaps}
use Rattle.rcc5_core.specs.RelationSet.{only, adding}
use Rattle.world_model.specs.declared.Articulation.{Articulation}
use Rattle.world_model.specs.declared.Articulation.TheVariants.{Pair}
use Rattle.world_model.specs.Problem.{Problem}
use Rattle.world_model.specs.Examples.{all_on}
use Rattle.proof_text.specs.Numbers.{number_in}
use Rattle.desk_run.specs.declared.script.ScriptKind.{ScriptKind}
use Rattle.desk_run.specs.declared.script.ScriptKind.TheVariants.{BadLine, BadSlot, BadBits, UnknownConcept, SameConcept, BadLetters}
use Rattle.desk_run.specs.declared.script.requests.Act.TheVariants.{Open, Keep, Narrow, Next, Close}
use Rattle.desk_run.specs.declared.script.requests.DeskRequest.{DeskRequest}
use Rattle.desk_run.specs.Script.Script.{script_result}

-- the concepts 1.A, 1.B and 2.C, of which this is said. Their pairs are (1.A, 2.C), (1.B, 2.C) and (1.A, 1.B)
abbrev pub three : List Articulation → Problem
three said = record {
  taxonomies = codes "1" ∷ codes "2" ∷ [];
  names = codes "A" ∷ codes "B" ∷ codes "C" ∷ [];
  owners = 0 ∷ 0 ∷ 1 ∷ [];
  parents = None ∷ None ∷ None ∷ [];
  children = [] ∷ [] ∷ [] ∷ [];
  articulations = said;
  kept = map (λ _. true) said;
  narrowings = [];
  switches = all_on;
}

-- two statements
abbrev pub two_said : List Articulation
two_said = Pair 0 2 (only Equals) ∷ Pair 1 2 (only Includes) ∷ []

-- where these are said, a script has these requests
abbrev pub Asks : List Articulation → List ℕ → List DeskRequest → Type 0
Asks said script requests = script_result (three said) script ≡ Ok requests

-- where two statements are said, a script has this first fault
abbrev pub Faulty : List ℕ → ℕ → ScriptKind → Type 0
Faulty script line kind = script_result (three two_said) script ≡ Err (line, kind)

-- an empty script asks for nothing, and so do lines without words
pub no_request : Asks two_said (codes "\n \n\t\n") []
no_request = refl

-- the last line needs no end
pub two_slots : Asks two_said (codes "1 open\n\n 16\topen \n1 next\n16 close") (record { slot = 1; act = Open } ∷ record { slot = 16; act = Open } ∷ record { slot = 1; act = Next } ∷ record { slot = 16; act = Close } ∷ [])
unfolding number_in
two_slots = refl

-- a flag for each statement, and a full stop where there is none
pub kept_one : Asks two_said (codes "2 keep 01\n") (record { slot = 2; act = Keep (false ∷ true ∷ []) } ∷ [])
unfolding number_in
kept_one = refl

pub kept_none : Asks [] (codes "2 keep .\n") (record { slot = 2; act = Keep [] } ∷ [])
unfolding number_in
kept_none = refl

-- a letter that stands twice counts once
pub narrowed : Asks two_said (codes "1 narrow 1.B 2.C x>x\n") (record { slot = 1; act = Narrow 1 (adding (only Includes) Overlaps) } ∷ [])
unfolding number_in
narrowed = refl

-- the greater concept on the left: the pair and the set are turned round
pub turned_round : Asks two_said (codes "1 narrow 2.C 1.B <x\n1 narrow 1.B 1.A <\n") (record { slot = 1; act = Narrow 1 (adding (only Includes) Overlaps) } ∷ record { slot = 1; act = Narrow 2 (only Includes) } ∷ [])
unfolding number_in
turned_round = refl

-- no form: a word too many, a foreign word, a comment, a carriage return at the end. It comes before the slot
pub word_too_many : Faulty (codes "1 open\n\n1 next now\n0 open") 3 BadLine
unfolding number_in
word_too_many = refl

pub word_too_few : Faulty (codes "1 narrow 1.A 2.C\n") 1 BadLine
unfolding number_in
word_too_few = refl

pub comment : Faulty (codes "# what if\n1 open\n") 1 BadLine
unfolding number_in
comment = refl

pub return_behind_next : Faulty (codes "1 next\r\n") 1 BadLine
unfolding number_in
return_behind_next = refl

pub form_before_slot : Faulty (codes "17 reopen\n") 1 BadLine
unfolding number_in
form_before_slot = refl

-- no slot: out of range, a leading zero, a mark before the text. It comes before what the form has
pub slot_out_of_range : Faulty (codes "17 keep 2\n") 1 BadSlot
unfolding number_in
slot_out_of_range = refl

pub leading_zero : Faulty (codes "1 open\n01 next\n") 2 BadSlot
unfolding number_in
leading_zero = refl

pub marked : Faulty (239 ∷ 187 ∷ 191 ∷ codes "1 open\n") 1 BadSlot
unfolding number_in
marked = refl

-- no flags: too few, a foreign byte, a carriage return among them, a full stop where there are statements
pub too_few_flags : Faulty (codes "1 keep 1\n") 1 BadBits
unfolding number_in
too_few_flags = refl

pub foreign_flag : Faulty (codes "1 keep 12\n") 1 BadBits
unfolding number_in
foreign_flag = refl

pub return_behind_flags : Faulty (codes "1 keep 10\r\n") 1 BadBits
unfolding number_in
return_behind_flags = refl

pub flags_needed : Faulty (codes "1 keep .\n") 1 BadBits
unfolding number_in
flags_needed = refl

-- no pair, in this order: a concept that isn't known, one and the same, foreign letters
pub unknown_concept : Faulty (codes "1 narrow 1.A 2.D ?\n") 1 UnknownConcept
unfolding number_in
unknown_concept = refl

pub same_concept : Faulty (codes "1 narrow 1.A 1.A ?\n") 1 SameConcept
unfolding number_in
same_concept = refl

pub bad_letters : Faulty (codes "1 narrow 1.A 2.C <?\n") 1 BadLetters
unfolding number_in
bad_letters = refl
