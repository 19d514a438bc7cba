-- What bytes of the form of a token contain.
use Rattle.std.specs.Prelude.{ℕ, ◌==◌, Bool, not, ◌&&◌, ◌||◌, nat_le, if◌then◌else◌, List, [], ◌∷◌, length, codes, bytes_eq, nat_lt, Option, Some, None, option_and_then}
use Rattle.std.specs.List.{list_all}
use Rattle.proof_text.specs.Words.{words_of}
use Rattle.proof_text.specs.Numbers.{number_in}
use Rattle.run_ends.specs.declared.token.contents.Contents as code

-- of which problem a token is, by its taxonomies, its pairs where they are told, and its digest; and its position as a word
pub record Contents : Type 0 where
  pub taxonomies : ℕ
  pub pairs : Option ℕ
  pub digest : List ℕ
  pub position : List ℕ

-- the most bytes of a token
abbrev pub token_limit : ℕ
token_limit = 1048576

-- whether a byte is a hexadecimal digit: 0 to 9, and a to f
abbrev pub is_digest_byte : ℕ → Bool
is_digest_byte b = (nat_le 48 b && nat_le b 57) || (nat_le 97 b && nat_le b 102)

-- whether a word is a digest: 64 hexadecimal digits
abbrev pub is_digest : List ℕ → Bool
is_digest word = (length word == 64) && list_all is_digest_byte word

-- the contents whose last two words, which are all that is left, are a digest and a position
abbrev pub ended_by : ℕ → Option ℕ → List (List ℕ) → Option Contents
ended_by taxonomies pairs [] = None
ended_by taxonomies pairs (digest ∷ []) = None
ended_by taxonomies pairs (digest ∷ position ∷ []) =
    if is_digest digest && not (length position == 0)
    then Some (record { taxonomies = taxonomies; pairs = pairs; digest = digest; position = position }) else None
ended_by taxonomies pairs (digest ∷ position ∷ other ∷ words) = None

-- the contents of version 1, which is of two taxonomies and doesn't tell its pairs
abbrev pub first_version : List (List ℕ) → Option Contents
first_version words = ended_by 2 None words

-- the contents of version 2, which begin with the numbers of taxonomies and of pairs
abbrev pub second_version : List (List ℕ) → Option Contents
second_version [] = None
second_version (taxonomies ∷ []) = None
second_version (taxonomies ∷ pairs ∷ words) =
    option_and_then (λ t. option_and_then (λ k. ended_by t (Some k) words) (number_in 0 523776 pairs)) (number_in 2 8 taxonomies)

-- the contents of a token's words: the word `token`, the number of the version, and what that has
abbrev pub contents_of_words : List (List ℕ) → Option Contents
contents_of_words [] = None
contents_of_words (word ∷ []) = None
contents_of_words (word ∷ version ∷ words) =
    if not (bytes_eq word (codes "token")) then None else
    (if bytes_eq version (codes "1") then first_version words else
    (if bytes_eq version (codes "2") then second_version words else None))

-- the contents of a token's lines: one line, whose words have one space between, and nothing behind its end
abbrev pub contents_of_lines : List (List ℕ) → Option Contents
contents_of_lines [] = None
contents_of_lines (line ∷ []) = None
contents_of_lines (line ∷ rest ∷ []) = if length rest == 0 then contents_of_words (words_of 32 line) else None
contents_of_lines (line ∷ rest ∷ other ∷ lines) = None

-- the contents of bytes, if they are a token
abbrev pub contents_of : List ℕ → Option Contents
contents_of bytes = if nat_lt token_limit (length bytes) then None else contents_of_lines (words_of 10 bytes)

-- contents of the code
abbrev pub meant : code.Contents → Contents
meant c = record { taxonomies = c.taxonomies; pairs = c.pairs; digest = c.digest.now; position = c.position.now }
