-- A whole text, line by line.
use Rattle.std.proofs.Common.{◌≡◌, ◌+◌, ◌≤◌, arith, sym, ℕ, Bool, true, false, List, [], ◌∷◌, length, Option, Some, None, Result, Ok, Err, IfSome, IfNone, refl, ap, ◌∙◌}
use Rattle.std.specs.Prelude.{nat_lt}
use Rattle.std.proofs.lemmas.Bool.{le-ltb}
use Rattle.std.proofs.lemmas.Str.{utf8_valid_len-IsUtf8}
use Rattle.std.specs.Borrow.{Bor}
use Rattle.std.specs.Str.Lossy.{utf8_valid_len}
use Rattle.world_model.specs.declared.Switches.{Switches}
use Rattle.constraint_set.specs.Build.{problem_of}
use Rattle.cleantax_text.specs.declared.TextKind.{TextKind}
use Rattle.text_words.specs.Tokens.{lines_of, without_mark}
use Rattle.cleantax_text.specs.Reading.{Reading, nothing_read, after_line, after_lines, and_then, at_end, text_result}
use Rattle.cleantax_text.specs.Whole.{with_two, marked_reading, text_reading, built, lines_left}

-- the first line and what is left
pub lines_cut : (text line : List ℕ) (rest : Option (Bor (List ℕ))) → IfSome rest (λ r. lines_of text ≡ line ∷ lines_of r.now) → IfNone rest (lines_of text ≡ line ∷ []) → lines_of text ≡ line ∷ lines_left rest
lines_cut text line None more last = last
lines_cut text line (Some r) more last = more

-- a line that is taken in
pub lines_taken : (number : ℕ) (r next : Reading) (line : List ℕ) (lines : List (List ℕ)) → after_line r line ≡ Ok next → after_lines number r (line ∷ lines) ≡ after_lines (number + 1) next lines
lines_taken number r next line lines e = ap (λ a. and_then number a (λ n. after_lines (number + 1) n lines)) e

-- a line with a fault
pub lines_faulty : (number : ℕ) (r : Reading) (line : List ℕ) (lines : List (List ℕ)) (kind : TextKind) → after_line r line ≡ Err kind → after_lines number r (line ∷ lines) ≡ Err (number, kind)
lines_faulty number r line lines kind e = ap (λ a. and_then number a (λ n. after_lines (number + 1) n lines)) e

pub ruleset utf8_rules = (utf8_valid_len-IsUtf8)

pub ruleset loop_rules = (lines_cut, lines_taken, lines_faulty)

at_end-built : (switches : Switches) (r : Result Reading (ℕ × TextKind)) → at_end switches r ≡ built switches (with_two r)
at_end-built switches (Err fault) = refl
at_end-built switches (Ok r) = by (nat_lt (length r.ids) 2) refl
  where
    by : (b : Bool) → nat_lt (length r.ids) 2 ≡ b → at_end switches (Ok r) ≡ built switches (with_two (Ok r))
    by true e = rw e refl
    by false e = rw e refl

-- what a text says is the problem of what its lines give
pub text_result-built : (bytes : List ℕ) (switches : Switches) → text_result bytes switches ≡ built switches (text_reading bytes)
text_result-built bytes switches = by (nat_lt 1048576 (length bytes)) (nat_lt (utf8_valid_len bytes) (length bytes)) refl refl
  where
    by : (a b : Bool) → nat_lt 1048576 (length bytes) ≡ a → nat_lt (utf8_valid_len bytes) (length bytes) ≡ b → text_result bytes switches ≡ built switches (text_reading bytes)
    by true b e f = rw e refl
    by false true e f = rw (e, f) refl
    by false false e f = rw (e, f) (at_end-built switches (after_lines 1 nothing_read (lines_of (without_mark bytes))))

pub says_problem : (bytes : List ℕ) (switches : Switches) (r : Reading) → text_reading bytes ≡ Ok r → text_result bytes switches ≡ Ok (problem_of r.ids r.forests r.articulations switches)
says_problem bytes switches r e = text_result-built bytes switches ∙ ap (built switches) e

pub says_fault : (bytes : List ℕ) (switches : Switches) (line : ℕ) (kind : TextKind) → text_reading bytes ≡ Err (line, kind) → text_result bytes switches ≡ Err (line, kind)
says_fault bytes switches line kind e = text_result-built bytes switches ∙ ap (built switches) e

-- a text that isn't too long
pub short_reading : (bytes : List ℕ) → length bytes ≤ 1048576 → text_reading bytes ≡ with_two (marked_reading bytes)
short_reading bytes short = rw (le-ltb 1048576 (length bytes) short) refl

-- a text of UTF-8
pub whole_reading : (bytes text : List ℕ) (valid : ℕ) → valid ≡ utf8_valid_len bytes → length bytes ≤ valid → text ≡ without_mark bytes → marked_reading bytes ≡ after_lines 1 nothing_read (lines_of text)
whole_reading bytes text valid is whole cut =
    let valid_to_end : length bytes ≤ utf8_valid_len bytes = omega arith in
    rw (le-ltb (utf8_valid_len bytes) (length bytes) valid_to_end) (ap (λ t. after_lines 1 nothing_read (lines_of t)) (sym cut))
