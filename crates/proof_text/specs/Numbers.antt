-- Numbers as words: their decimal digits, with no zero before another digit.
use Rattle.std.specs.Prelude.{ℕ, ◌+◌, ◌-◌, ◌*◌, ◌==◌, nat_le, nat_lt, ◌^◌, Bool, false, not, ◌&&◌, if◌then◌else◌, List, [], ◌∷◌, length, Option, Some, None}
use Rattle.std.specs.Char.{is_ascii_digit}
use Rattle.std.specs.Str.{all_ascii_digits}
use Rattle.std.specs.Str.Parse.{digits_value}

-- whether a zero (48) stands before another byte
abbrev pub has_leading_zero : List ℕ → Bool
has_leading_zero [] = false
has_leading_zero (first ∷ []) = false
has_leading_zero (first ∷ second ∷ others) = first == 48

-- whether a word is a number
abbrev pub is_number : List ℕ → Bool
is_number word = not (length word == 0) && not (has_leading_zero word) && all_ascii_digits word

-- the number from low to high that a word is
unfoldable pub number_in : ℕ → ℕ → List ℕ → Option ℕ
number_in low high word =
    if is_number word && nat_le low (digits_value 10 word) && nat_le (digits_value 10 word) high then Some (digits_value 10 word) else None

-- the number below 2 ^ 64 that digits stand for
unfoldable pub digits_in : List ℕ → Option ℕ
digits_in word = if all_ascii_digits word && nat_lt (digits_value 10 word) (2 ^ 64) then Some (digits_value 10 word) else None

-- a number with one more digit, if it stays below 2 ^ 64
unfoldable pub digit_after : ℕ → ℕ → Option ℕ
digit_after n c = if is_ascii_digit c && nat_lt (n * 10 + (c - 48)) (2 ^ 64) then Some (n * 10 + (c - 48)) else None
