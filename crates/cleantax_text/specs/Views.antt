-- What the reader's own values mean.
use Rattle.std.specs.Prelude.{◌≤◌, ℕ, length, List, [], ◌∷◌, ◌++◌, Option, Some, None, option_map}
use Rattle.cleantax_text.specs.declared.forms.Form as code_form
use Rattle.cleantax_text.specs.declared.forms.Form.TheVariants as form_is
use Rattle.cleantax_text.specs.declared.forms.Run as code_run
use Rattle.text_words.specs.Views.{words_meant}
use Rattle.text_words.specs.Tokens.{Token, Bracket, Word, tokens_after}
use Rattle.cleantax_text.specs.Forms.{Form, Blank, TaxonomyLine, ArticulationLine, RowLine, PairEntry, SumEntry, NoForm}

-- a form of the code
abbrev pub form_meant : code_form.Form → Form
form_meant form_is.Blank = Blank
form_meant (form_is.TaxonomyLine id) = TaxonomyLine id.now
form_meant form_is.ArticulationLine = ArticulationLine
form_meant (form_is.RowLine names) = RowLine (words_meant names.items)
form_meant (form_is.PairEntry left relation right) = PairEntry left.now (words_meant relation.items) right.now
form_meant (form_is.SumEntry whole parts) = SumEntry whole.now (words_meant parts.items)
form_meant form_is.NoForm = NoForm

-- a row has a name, and a sum has two parts
abbrev pub IsWell : Form → Type 0
IsWell Blank = Unit {0}
IsWell (TaxonomyLine id) = Unit {0}
IsWell ArticulationLine = Unit {0}
IsWell (RowLine names) = 1 ≤ length names
IsWell (PairEntry left relation right) = Unit {0}
IsWell (SumEntry whole parts) = 2 ≤ length parts
IsWell NoForm = Unit {0}

-- words before a run of words
abbrev pub onto_run : List (List ℕ) → Option (List (List ℕ) × ℕ × List Token) → Option (List (List ℕ) × ℕ × List Token)
onto_run words run = option_map (λ r. (words ++ r.0, r.1, r.2)) run

-- the words before the first bracket, that bracket, and the tokens after it
abbrev pub at_bracket : List Token → Option (List (List ℕ) × ℕ × List Token)
at_bracket [] = None
at_bracket (Word word ∷ tokens) = onto_run (word ∷ []) (at_bracket tokens)
at_bracket (Bracket b ∷ tokens) = Some ([], b, tokens)

-- a run of words of the code
abbrev pub run_meant : code_run.Run → List (List ℕ) × ℕ × List Token
run_meant run = (words_meant run.words.items, run.bracket, tokens_after [] run.after.now)

-- numbers before others, if those are some
abbrev pub onto_numbers : List ℕ → Option (List ℕ) → Option (List ℕ)
onto_numbers numbers rest = option_map (λ others. numbers ++ others) rest
