-- A text as lines, and a line as tokens.
use Rattle.std.specs.Prelude.{ℕ, ◌==◌, Bool, ◌||◌, List, [], ◌∷◌, ◌++◌, drop, filter, length, if◌then◌else◌, nat_eq, nat_lt, codes}
use Rattle.std.specs.List.{list_any, slice_split, before_first, starts_with}

-- the bytes EF BB BF, which may stand before a text
abbrev pub mark : List ℕ
mark = 239 ∷ 187 ∷ 191 ∷ []

-- the text without a mark before it
abbrev pub without_mark : List ℕ → List ℕ
without_mark bytes = if starts_with nat_eq bytes mark then drop 3 bytes else bytes

-- whether a byte ends a line
abbrev pub is_line_end : ℕ → Bool
is_line_end b = b == 10

-- whether a byte begins a comment: #
abbrev pub is_hash : ℕ → Bool
is_hash b = b == 35

-- the lines of a text. Past a last line end stands one more line, which is empty
abbrev pub lines_of : List ℕ → List (List ℕ)
lines_of bytes = slice_split is_line_end bytes

-- a line without one carriage return at its end
abbrev pub without_return : List ℕ → List ℕ
without_return [] = []
without_return (b ∷ []) = if b == 13 then [] else b ∷ []
without_return (b ∷ c ∷ bs) = b ∷ without_return (c ∷ bs)

-- a line without that and without its comment
abbrev pub bare : List ℕ → List ℕ
bare line = before_first is_hash (without_return line)

-- a bracket, or a word
pub data Token : Type 0 where
  Bracket : ℕ → Token
  Word : List ℕ → Token

-- whether a byte parts words: space and tab
abbrev pub is_blank : ℕ → Bool
is_blank b = (b == 32) || (b == 9)

-- whether a byte is a token of its own: ( ) [ ] { }
abbrev pub is_bracket : ℕ → Bool
is_bracket b = list_any (λ c. b == c) (codes "()[]{}")

-- what is left of a word, as a token if it isn't empty
abbrev pub ended : List ℕ → List Token
ended [] = []
ended (b ∷ bs) = Word (b ∷ bs) ∷ []

-- the tokens of a line, where this much of a word stands before it: brackets, and the longest runs of other bytes than blanks
abbrev pub tokens_after : List ℕ → List ℕ → List Token
tokens_after word [] = ended word
tokens_after word (b ∷ bs) =
    if is_blank b then ended word ++ tokens_after [] bs else
    (if is_bracket b then ended word ++ Bracket b ∷ tokens_after [] bs else
    tokens_after (word ++ b ∷ []) bs)

-- the tokens of a line
abbrev pub tokens_of : List ℕ → List Token
tokens_of line = tokens_after [] (bare line)

-- the words of a line: what stands between blanks and isn't empty
abbrev pub words_in : List ℕ → List (List ℕ)
words_in line = filter (λ word. nat_lt 0 (length word)) (slice_split is_blank line)
