-- What the values of the code mean.
use Rattle.std.specs.Prelude.{◌≡◌, ℕ, ◌||◌, Bool, false, not, List, [], ◌∷◌, ◌++◌, map, Option, Some, option_map, option_and_then}
use Rattle.text_words.specs.declared.tokens.Token as code_token
use Rattle.text_words.specs.declared.tokens.Token.TheVariants as token_is
use Rattle.text_words.specs.declared.words.Reference.{Reference}
use Rattle.rcc5_core.specs.declared.RelSet.{RelSet}
use Rattle.rcc5_core.specs.RelationSet.{adding}
use Rattle.std.specs.Borrow.{Bor}
use Rattle.text_words.specs.Words.{relation_of_word}
use Rattle.text_words.specs.Tokens.{Token, Bracket, Word, is_blank, is_bracket}

-- a token of the code
abbrev pub token_of : code_token.Token → Token
token_of (token_is.Bracket b) = Bracket b
token_of (token_is.Word word) = Word word.now

-- whether a byte ends a word
abbrev pub ends_word : ℕ → Bool
ends_word b = is_blank b || is_bracket b

-- whether a byte is no blank
abbrev pub is_no_blank : ℕ → Bool
is_no_blank b = not (is_blank b)

-- a line that is empty or begins with a token
abbrev pub StartsToken : List ℕ → Type 0
StartsToken [] = Unit {0}
StartsToken (b ∷ bs) = is_blank b ≡ false

-- words of the code
abbrev pub words_meant : List (Bor (List ℕ)) → List (List ℕ)
words_meant words = map (λ w. w.now) words

-- a reference of the code: the names of the taxonomy and the concept
abbrev pub reference_meant : Reference → List ℕ × List ℕ
reference_meant reference = (reference.taxonomy.now, reference.concept.now)

abbrev pub references_meant : List Reference → List (List ℕ × List ℕ)
references_meant references = map reference_meant references

-- references before others, if those are some
abbrev pub onto_references : List (List ℕ × List ℕ) → Option (List (List ℕ × List ℕ)) → Option (List (List ℕ × List ℕ))
onto_references references rest = option_map (λ others. references ++ others) rest

-- a set with the relations that words stand for, if each stands for one
abbrev pub set_onto : RelSet → List (List ℕ) → Option RelSet
set_onto set [] = Some set
set_onto set (word ∷ words) = option_and_then (λ rel. option_map (λ s. adding s rel) (set_onto set words)) (relation_of_word word)
