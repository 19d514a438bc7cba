-- What the forms of lines ask for in a problem.
use Rattle.std.specs.Prelude.{ℕ, ◌==◌, ◌&&◌, ◌||◌, Bool, nat_lt, List, [], length, map, Option, Some, None, Result, Ok, Err, if◌then◌else◌, bytes_eq, codes}
use Rattle.std.specs.List.{list_all, position_or_len}
use Rattle.rcc5_core.specs.declared.RelSet.{RelSet}
use Rattle.rcc5_core.specs.RelationSet.{converses}
use Rattle.world_model.specs.Problem.{Problem, pairs}
use Rattle.text_words.specs.Words.{set_of_letters}
use Rattle.cleantax_text.specs.Canonical.{concept_named}
use Rattle.desk_run.specs.declared.script.ScriptKind.{ScriptKind}
use Rattle.desk_run.specs.declared.script.ScriptKind.TheVariants.{BadBits, UnknownConcept, SameConcept, BadLetters}
use Rattle.desk_run.specs.declared.script.requests.Act.{Act}
use Rattle.desk_run.specs.declared.script.requests.Act.TheVariants.{Open, Keep, Narrow, Next, Close}
use Rattle.desk_run.specs.Script.Forms.{Form, OpenForm, KeepForm, NarrowForm, NextForm, CloseForm}

-- the fault where the test holds, and else the rest
abbrev pub fail_if : {X : Type 0} → Bool → ScriptKind → Result X ScriptKind → Result X ScriptKind
fail_if test kind rest = if test then Err kind else rest

-- the fault where there is no value, and else what comes of it
abbrev pub need : {X Y : Type 0} → Option X → ScriptKind → (X → Result Y ScriptKind) → Result Y ScriptKind
need None kind further = Err kind
need (Some x) kind further = further x

-- whether a byte is 0 or 1; whether it is 1
abbrev pub is_bit : ℕ → Bool
is_bit byte = (byte == 48) || (byte == 49)

abbrev pub is_one : ℕ → Bool
is_one byte = byte == 49

-- the flags of a word: a byte for each of so many, and a full stop where there is none to be given
abbrev pub flags_in : ℕ → List ℕ → Option (List Bool)
flags_in count word =
    if count == 0 then (if bytes_eq word (codes ".") then Some [] else None) else
    (if (length word == count) && list_all is_bit word then Some (map is_one word) else None)

-- whether a pair is that of two concepts
abbrev pub is_pair : ℕ → ℕ → ℕ × ℕ → Bool
is_pair i j pair = (pair.0 == i) && (pair.1 == j)

-- the number of the pair of two concepts: its place among all pairs
abbrev pub pair_number : Problem → ℕ → ℕ → ℕ
pair_number p i j = position_or_len (is_pair i j) (pairs p)

-- the narrowing of two concepts to a set; where the left one has the greater number, it is turned round, and the set is that of the converses
abbrev pub turned : Problem → ℕ → ℕ → RelSet → Act
turned p i j set = if nat_lt i j then Narrow (pair_number p i j) set else Narrow (pair_number p j i) (converses set)

-- a narrowing by its words
abbrev pub narrow_act : Problem → List ℕ → List ℕ → List ℕ → Result Act ScriptKind
narrow_act p left right letters =
    need (concept_named p left) UnknownConcept (λ i.
    need (concept_named p right) UnknownConcept (λ j.
    fail_if (i == j) SameConcept
    (need (set_of_letters letters) BadLetters (λ set.
    Ok (turned p i j set)))))

-- what a form asks for, or its first fault
abbrev pub act_of : Problem → Form → Result Act ScriptKind
act_of p OpenForm = Ok Open
act_of p (KeepForm bits) = need (flags_in (length p.articulations) bits) BadBits (λ flags. Ok (Keep flags))
act_of p (NarrowForm left right letters) = narrow_act p left right letters
act_of p NextForm = Ok Next
act_of p CloseForm = Ok Close
