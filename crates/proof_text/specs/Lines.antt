-- The lines of a derivation as text: `d ID LITERALS 0 HINTS 0` and `k IDS 0`, with one space between words.
use Rattle.std.specs.Prelude.{◌≡◌, ◌≢◌, ℕ, ◌+◌, ◌-◌, ◌^◌, ◌<◌, ◌≤◌, ◌==◌, Bool, true, false, if◌then◌else◌, List, [], ◌∷◌, ◌++◌, map, codes, bytes_eq, decimal, Option, None, option_map, Result, Ok, Err, ok_or, All}
use Rattle.std.specs.List.{join_with_byte}
use Rattle.lits_core.specs.declared.Line.{Line}
use Rattle.lits_core.specs.declared.Line.TheVariants.{Derive, Forget}
use Rattle.lits_core.specs.Literals.{literal_of, variable_of, is_negative}
use Rattle.proof_text.specs.declared.fault.LineTextFault.{LineTextFault}
use Rattle.proof_text.specs.declared.fault.LineTextFault.TheVariants.{BadLine, BadNumber, NoMemory}
use Rattle.proof_text.specs.Words.{words_of}
use Rattle.proof_text.specs.Numbers.{number_in}

-- what a further step makes of a value; a fault stays
infixl 10 ◌>>=◌
abbrev pub ◌>>=◌ : {A B : Type 0} → Result A LineTextFault → (A → Result B LineTextFault) → Result B LineTextFault
(Ok x) >>= f = f x
(Err k) >>= f = Err k

-- what a call answered, seen by view, is what reading gives, unless memory ran out
abbrev pub Gives : {X Y : Type 0} → (X → Y) → Result X LineTextFault → Result Y LineTextFault → Type 0
Gives view (Ok x) read = read ≡ Ok (view x)
Gives view (Err k) read = k ≢ NoMemory → read ≡ Err k

-- the word that ends a list
abbrev pub zero_word : List ℕ
zero_word = codes "0"

-- the id that a word spells
abbrev pub id_in : List ℕ → Option ℕ
id_in word = number_in 1 (2 ^ 64 - 1) word

-- the literal of this sign whose variable, counted from 1, a word spells
abbrev pub literal_from : Bool → List ℕ → Option ℕ
literal_from negative word = option_map (λ n. literal_of (n - 1) negative) (number_in 1 (2 ^ 31) word)

-- the literal that a word spells: a variable counted from 1, behind a `-` (45) where it is negative
unfoldable pub literal_in : List ℕ → Option ℕ
literal_in [] = None
literal_in (first ∷ others) = if first == 45 then literal_from true others else literal_from false (first ∷ others)

-- what a word gives where an item is to stand: an empty word is a bad line, and any other that is no item a bad number
abbrev pub item_at : (List ℕ → Option ℕ) → List ℕ → Result ℕ LineTextFault
item_at item [] = Err BadLine
item_at item (first ∷ others) = ok_or (item (first ∷ others)) BadNumber

-- the item that is the first of some words, and the words after it
abbrev pub first_of : (List ℕ → Option ℕ) → List (List ℕ) → Result (ℕ × List (List ℕ)) LineTextFault
first_of item [] = Err BadLine
first_of item (word ∷ words) = item_at item word >>= λ x. Ok (x, words)

-- the items of a list up to its `0`, and the words after that
abbrev pub list_of : (List ℕ → Option ℕ) → List (List ℕ) → Result (List ℕ × List (List ℕ)) LineTextFault
list_of item [] = Err BadLine
list_of item (word ∷ words) =
    if bytes_eq word zero_word then Ok ([], words)
    else item_at item word >>= λ x. list_of item words >>= λ others. Ok (x ∷ others.0, others.1)

-- a line, where no word is left
abbrev pub whole : List (List ℕ) → Line → Result Line LineTextFault
whole [] line = Ok line
whole (word ∷ words) line = Err BadLine

-- a derive line from the words after its `d`
unfoldable pub derive_of : List (List ℕ) → Result Line LineTextFault
derive_of words =
    first_of id_in words >>= λ id. list_of literal_in id.1 >>= λ lits. list_of id_in lits.1 >>= λ hints.
    whole hints.1 (Derive id.0 lits.0 hints.0)

-- a forget line from the words after its `k`
unfoldable pub forget_of : List (List ℕ) → Result Line LineTextFault
forget_of words = list_of id_in words >>= λ ids. whole ids.1 (Forget ids.0)

-- a line from its words
unfoldable pub line_of_words : List (List ℕ) → Result Line LineTextFault
line_of_words [] = Err BadLine
line_of_words (word ∷ words) =
    if bytes_eq word (codes "d") then derive_of words else (if bytes_eq word (codes "k") then forget_of words else Err BadLine)

-- the line that bytes spell, or the first fault from the left
abbrev pub line_of : List ℕ → Result Line LineTextFault
line_of bytes = line_of_words (words_of 32 bytes)

-- a literal as a word
unfoldable pub literal_text : ℕ → List ℕ
literal_text lit = (if is_negative lit then codes "-" else []) ++ decimal (variable_of lit + 1)

-- the words of a list, with the `0` that ends it
abbrev pub list_words : (ℕ → List ℕ) → List ℕ → List (List ℕ)
list_words text items = map text items ++ zero_word ∷ []

-- the words of a line
abbrev pub line_words : Line → List (List ℕ)
line_words (Derive id lits hints) = codes "d" ∷ decimal id ∷ list_words literal_text lits ++ list_words decimal hints
line_words (Forget ids) = codes "k" ∷ list_words decimal ids

-- a line as text, without an LF: its words with one space between two
abbrev pub line_text : Line → List ℕ
line_text line = join_with_byte 32 (line_words line)

-- whether a number can be an id
abbrev pub IsId : ℕ → Type 0
IsId id = (1 ≤ id) × (id < 2 ^ 64)

-- whether a line's ids and hints can be ids, and its literals are codes of literals
abbrev pub IsLine : Line → Type 0
IsLine (Derive id lits hints) = IsId id × All (λ lit. lit < 2 ^ 32) lits × All IsId hints
IsLine (Forget ids) = All IsId ids
