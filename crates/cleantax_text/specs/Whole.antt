-- A whole text without its switches: what its lines give, or its first fault.
use Rattle.std.specs.Prelude.{ℕ, ◌+◌, nat_lt, List, [], length, take, count_by, Option, Some, None, Result, Ok, Err, if◌then◌else◌}
use Rattle.std.specs.Borrow.{Bor}
use Rattle.std.specs.Str.Lossy.{utf8_valid_len}
use Rattle.world_model.specs.Problem.{Problem}
use Rattle.world_model.specs.declared.Switches.{Switches}
use Rattle.constraint_set.specs.Build.{problem_of}
use Rattle.cleantax_text.specs.declared.TextKind.{TextKind}
use Rattle.cleantax_text.specs.declared.TextKind.TheVariants.{NotUtf8, TooLong, TaxonomyCount}
use Rattle.text_words.specs.Tokens.{is_line_end, lines_of, without_mark}
use Rattle.cleantax_text.specs.Reading.{Reading, nothing_read, after_lines}

-- a text that isn't too long
abbrev pub marked_reading : List ℕ → Result Reading (ℕ × TextKind)
marked_reading bytes =
    if nat_lt (utf8_valid_len bytes) (length bytes) then Err (count_by is_line_end (take (utf8_valid_len bytes) bytes) + 1, NotUtf8) else
    after_lines 1 nothing_read (lines_of (without_mark bytes))

-- two taxonomies or more are there
abbrev pub with_two : Result Reading (ℕ × TextKind) → Result Reading (ℕ × TextKind)
with_two (Err fault) = Err fault
with_two (Ok r) = if nat_lt (length r.ids) 2 then Err (0, TaxonomyCount) else Ok r

-- a text
abbrev pub text_reading : List ℕ → Result Reading (ℕ × TextKind)
text_reading bytes = if nat_lt 1048576 (length bytes) then Err (0, TooLong) else with_two (marked_reading bytes)

-- the problem of what was read
abbrev pub built : Switches → Result Reading (ℕ × TextKind) → Result Problem (ℕ × TextKind)
built switches (Err fault) = Err fault
built switches (Ok r) = Ok (problem_of r.ids r.forests r.articulations switches)

-- the lines of the text that is left, and its length with the line end before it
abbrev pub lines_left : Option (Bor (List ℕ)) → List (List ℕ)
lines_left None = []
lines_left (Some rest) = lines_of rest.now

abbrev pub length_left : Option (Bor (List ℕ)) → ℕ
length_left None = 0
length_left (Some rest) = length rest.now + 1
