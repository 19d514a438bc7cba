-- The forms of lines.
use Rattle.std.specs.Prelude.{ℕ, ◌==◌, ◌||◌, List, [], ◌∷◌, ◌++◌, Option, Some, None, option_map, if◌then◌else◌, bytes_eq, codes}
use Rattle.text_words.specs.Tokens.{Token, Bracket, Word}

-- what a line is
pub data Form : Type 0 where
  -- a line without tokens
  Blank : Form
  -- `taxonomy NAME ..`
  TaxonomyLine : List ℕ → Form
  -- `articulation ..`
  ArticulationLine : Form
  -- `(NAME NAME ..)`, with one name or more
  RowLine : List (List ℕ) → Form
  -- `[REFERENCE RELATION REFERENCE]`, the relation as the words of it
  PairEntry : List ℕ → List (List ℕ) → List ℕ → Form
  -- `[REFERENCE sums REFERENCE REFERENCE ..]`, with two parts or more
  SumEntry : List ℕ → List (List ℕ) → Form
  -- none of these
  NoForm : Form

-- the words before a bracket that ends the line
abbrev pub words_to : ℕ → List Token → Option (List (List ℕ))
words_to close [] = None
words_to close (Word word ∷ tokens) = option_map (λ words. word ∷ words) (words_to close tokens)
words_to close (Bracket b ∷ []) = if b == close then Some [] else None
words_to close (Bracket b ∷ token ∷ tokens) = None

-- after `taxonomy`
abbrev pub taxonomy_form : List Token → Form
taxonomy_form [] = NoForm
taxonomy_form (Word id ∷ tokens) = TaxonomyLine id
taxonomy_form (Bracket b ∷ tokens) = NoForm

-- a row of these words
abbrev pub row_form : Option (List (List ℕ)) → Form
row_form None = NoForm
row_form (Some []) = NoForm
row_form (Some (word ∷ words)) = RowLine (word ∷ words)

-- a sum of this whole and these parts
abbrev pub sum_form : List ℕ → Option (List (List ℕ)) → Form
sum_form whole None = NoForm
sum_form whole (Some []) = NoForm
sum_form whole (Some (part ∷ [])) = NoForm
sum_form whole (Some (part ∷ other ∷ parts)) = SumEntry whole (part ∷ other ∷ parts)

-- after the left reference and the relation of an entry: the right reference and `]`
abbrev pub right_form : List ℕ → List (List ℕ) → Option (List (List ℕ)) → Form
right_form left relation None = NoForm
right_form left relation (Some []) = NoForm
right_form left relation (Some (right ∷ [])) = PairEntry left relation right
right_form left relation (Some (right ∷ other ∷ words)) = NoForm

-- after `{` and some words of a relation
abbrev pub braces_form : List ℕ → List (List ℕ) → List Token → Form
braces_form left relation [] = NoForm
braces_form left relation (Word word ∷ tokens) = braces_form left (relation ++ word ∷ []) tokens
braces_form left relation (Bracket b ∷ tokens) = if b == 125 then right_form left relation (words_to 93 tokens) else NoForm

-- after `[` and a word
abbrev pub entry_form : List ℕ → List Token → Form
entry_form left [] = NoForm
entry_form left (Word word ∷ tokens) =
    if bytes_eq word (codes "sums") then sum_form left (words_to 93 tokens) else right_form left (word ∷ []) (words_to 93 tokens)
entry_form left (Bracket b ∷ tokens) = if b == 123 then braces_form left [] tokens else NoForm

-- after `[`
abbrev pub bracket_form : List Token → Form
bracket_form [] = NoForm
bracket_form (Word left ∷ tokens) = entry_form left tokens
bracket_form (Bracket b ∷ tokens) = NoForm

-- the form of a line, by its tokens
abbrev pub form_of : List Token → Form
form_of [] = Blank
form_of (Word word ∷ tokens) =
    if bytes_eq word (codes "taxonomy") then taxonomy_form tokens else
    (if bytes_eq word (codes "articulation") || bytes_eq word (codes "articulations") then ArticulationLine else NoForm)
form_of (Bracket b ∷ tokens) =
    if b == 40 then row_form (words_to 41 tokens) else
    (if b == 91 then bracket_form tokens else NoForm)
