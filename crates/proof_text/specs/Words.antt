-- Words, which one separator parts.
use Rattle.std.specs.Prelude.{ℕ, ◌==◌, Bool, if◌then◌else◌, List, [], ◌∷◌, map, codes}
use Rattle.std.specs.List.{slice_split, flat_map}
use Rattle.rcc5_core.specs.declared.Rel.{Rel}
use Rattle.rcc5_core.specs.Relation.{letter_of}

-- the words of a text: what stands between its separators. Between two in a row stands an empty word
abbrev pub words_of : ℕ → List ℕ → List (List ℕ)
words_of separator text = slice_split (λ b. b == separator) text

-- the words that are still to come, where the text after the last one may have ended
unfoldable pub words_left : ℕ → Bool → List ℕ → List (List ℕ)
words_left separator ended rest = if ended then [] else words_of separator rest

-- words with a separator before each
abbrev pub parted : ℕ → List (List ℕ) → List ℕ
parted separator words = flat_map (λ word. separator ∷ word) words

-- a list as a word with one byte for each member; the empty list is a full stop
abbrev pub spelled : {A : Type 0} → (A → ℕ) → List A → List ℕ
spelled byte [] = codes "."
spelled byte (x ∷ xs) = map byte (x ∷ xs)

-- a switch as a word
abbrev pub switch_word : Bool → List ℕ
switch_word on = if on then codes "on" else codes "off"

-- a position as a word: its letters
abbrev pub position_word : List Rel → List ℕ
position_word q = spelled letter_of q
