-- What printed words, numbers and lines read as.
use Rattle.std.specs.Prelude.{◌≡◌, ◌≢◌, ℕ, ◌^◌, ◌<◌, ◌≤◌, ◌==◌, Bool, false, List, [], decimal, Some, Ok, All}
use Rattle.std.specs.List.{list_any, join_with_byte}
use Rattle.lits_core.specs.declared.Line.{Line}
use Rattle.proof_text.specs.Words.{words_of}
use Rattle.proof_text.specs.Numbers.{number_in}
use Rattle.proof_text.specs.Lines.{line_of, line_text, IsLine}

-- whether a byte is in a word
abbrev pub has_byte : ℕ → List ℕ → Bool
has_byte byte word = list_any (λ b. b == byte) word

-- words that have no separator are read back from the text that joins them, and words are joined to the text that they are of
pub record WordsReadBack : Type 0 where
  pub joined : (separator : ℕ) (words : List (List ℕ)) → words ≢ [] → All (λ word. has_byte separator word ≡ false) words →
      words_of separator (join_with_byte separator words) ≡ words
  pub parted : (separator : ℕ) (text : List ℕ) → join_with_byte separator (words_of separator text) ≡ text

-- a number is read back from its digits, no other word is read as it, and no byte below `0` (48) is in it
pub record NumbersReadBack : Type 0 where
  pub printed : (low high n : ℕ) → n < 2 ^ 64 → low ≤ n → n ≤ high → number_in low high (decimal n) ≡ Some n
  pub read : (low high n : ℕ) (word : List ℕ) → high < 2 ^ 64 → number_in low high word ≡ Some n → word ≡ decimal n
  pub digits : (n byte : ℕ) → n < 2 ^ 64 → byte < 48 → has_byte byte (decimal n) ≡ false

-- a line is read back from its text, in which there is no LF (10)
pub record LinesReadBack : Type 0 where
  pub printed : (line : Line) → IsLine line → line_of (line_text line) ≡ Ok line
  pub no_lf : (line : Line) → IsLine line → has_byte 10 (line_text line) ≡ false

-- what is read as a line is the one text of it
pub record LinesHaveOneText : Type 0 where
  pub text : (bytes : List ℕ) (line : Line) → line_of bytes ≡ Ok line → bytes ≡ line_text line
  pub line : (bytes : List ℕ) (line : Line) → line_of bytes ≡ Ok line → IsLine line
