-- The words of a line up to a bracket.
use Rattle.std.proofs.Common.{◌≡◌, ◌==◌, ℕ, Bool, true, false, List, [], ◌∷◌, ◌++◌, Option, None, Some, refl, sym, ap, ◌∙◌, append_assoc, arith}
use Rattle.std.specs.Prelude.{option_map, if◌then◌else◌, bytes_eq, codes, ◌||◌}
use Rattle.std.specs.Borrow.{Bor}
use Rattle.std.proofs.lemmas.List.{append-nil}
use Rattle.text_words.specs.Tokens.{Token, Bracket, Word}
use Rattle.cleantax_text.specs.Forms.{Form, ArticulationLine, NoForm, words_to, taxonomy_form, row_form, sum_form, braces_form, right_form, entry_form, bracket_form, form_of}
use Rattle.text_words.specs.Views.{words_meant}
use Rattle.cleantax_text.specs.Views.{at_bracket, onto_run, IsWell}

abbrev Found : Type 0
Found = Option (List (List ℕ) × ℕ × List Token)

onto_run-append : (before words : List (List ℕ)) (run : Found) → onto_run before (onto_run words run) ≡ onto_run (before ++ words) run
onto_run-append before words None = refl
onto_run-append before words (Some r) = ap (λ w. Some (w, r.1, r.2)) (sym (append_assoc before words r.0))

-- no words before a run
pub onto_run-nil : (run : Found) → onto_run [] run ≡ run
onto_run-nil None = refl
onto_run-nil (Some r) = refl

-- one word more
pub words_meant_push : (words : List (Bor (List ℕ))) (word : Bor (List ℕ)) → words_meant (words ++ word ∷ []) ≡ words_meant words ++ word.now ∷ []
words_meant_push [] word = refl
words_meant_push (w ∷ ws) word = ap (λ rest. w.now ∷ rest) (words_meant_push ws word)

-- the loop over a run takes a word
pub run_takes : (words : List (Bor (List ℕ))) (word : Bor (List ℕ)) (tokens : List Token)
    → onto_run (words_meant words) (at_bracket (Word word.now ∷ tokens)) ≡ onto_run (words_meant (words ++ word ∷ [])) (at_bracket tokens)
run_takes words word tokens =
    onto_run-append (words_meant words) (word.now ∷ []) (at_bracket tokens) ∙ ap (λ w. onto_run w (at_bracket tokens)) (sym (words_meant_push words word))

-- the loop over a run meets its bracket
pub run_ends : (words : List (Bor (List ℕ))) (b : ℕ) (tokens : List Token)
    → onto_run (words_meant words) (at_bracket (Bracket b ∷ tokens)) ≡ Some (words_meant words, b, tokens)
run_ends words b tokens = ap (λ w. Some (w, b, tokens)) (append-nil (words_meant words))

-- the words of a run that ends the line with this bracket
abbrev whole_run : ℕ → Found → Option (List (List ℕ))
whole_run close None = None
whole_run close (Some (words, b, [])) = if b == close then Some words else None
whole_run close (Some (words, b, t ∷ ts)) = None

whole_run-onto : (close : ℕ) (word : List ℕ) (run : Found) → whole_run close (onto_run (word ∷ []) run) ≡ option_map (λ words. word ∷ words) (whole_run close run)
whole_run-onto close word None = refl
whole_run-onto close word (Some (words, b, [])) = by (b == close) refl
  where
    by : (p : Bool) → (b == close) ≡ p → whole_run close (onto_run (word ∷ []) (Some (words, b, []))) ≡ option_map (λ ws. word ∷ ws) (whole_run close (Some (words, b, [])))
    by true e = rw e refl
    by false e = rw e refl
whole_run-onto close word (Some (words, b, t ∷ ts)) = refl

words_to_run : (close : ℕ) (tokens : List Token) → words_to close tokens ≡ whole_run close (at_bracket tokens)
words_to_run close [] = refl
words_to_run close (Word word ∷ tokens) = ap (option_map (λ words. word ∷ words)) (words_to_run close tokens) ∙ sym (whole_run-onto close word (at_bracket tokens))
words_to_run close (Bracket b ∷ []) = refl
words_to_run close (Bracket b ∷ t ∷ ts) = refl

pub words_to_none : (close : ℕ) (tokens : List Token) → at_bracket tokens ≡ None → words_to close tokens ≡ None
words_to_none close tokens e = words_to_run close tokens ∙ ap (whole_run close) e

pub words_to_end : (close : ℕ) (tokens : List Token) (words : List (List ℕ)) (b : ℕ) → at_bracket tokens ≡ Some (words, b, []) → (b == close) ≡ true → words_to close tokens ≡ Some words
words_to_end close tokens words b e at = words_to_run close tokens ∙ ap (whole_run close) e ∙ rw at refl

pub words_to_other : (close : ℕ) (tokens : List Token) (words : List (List ℕ)) (b : ℕ) (after : List Token) → at_bracket tokens ≡ Some (words, b, after) → (b == close) ≡ false → words_to close tokens ≡ None
words_to_other close tokens words b [] e at = words_to_run close tokens ∙ ap (whole_run close) e ∙ rw at refl
words_to_other close tokens words b (t ∷ ts) e at = words_to_run close tokens ∙ ap (whole_run close) e

pub words_to_more : (close : ℕ) (tokens : List Token) (words : List (List ℕ)) (b : ℕ) (t : Token) (ts : List Token) → at_bracket tokens ≡ Some (words, b, t ∷ ts) → words_to close tokens ≡ None
words_to_more close tokens words b t ts e = words_to_run close tokens ∙ ap (whole_run close) e

-- an entry with braces, by its first run
abbrev braces_run : List ℕ → List (List ℕ) → Found → Form
braces_run left relation None = NoForm
braces_run left relation (Some (words, b, after)) = if b == 125 then right_form left (relation ++ words) (words_to 93 after) else NoForm

braces_run-onto : (left word : List ℕ) (relation : List (List ℕ)) (run : Found) → braces_run left (relation ++ word ∷ []) run ≡ braces_run left relation (onto_run (word ∷ []) run)
braces_run-onto left word relation None = refl
braces_run-onto left word relation (Some (words, b, after)) =
    ap (λ r. if b == 125 then right_form left r (words_to 93 after) else NoForm) (append_assoc relation (word ∷ []) words)

braces_form_run : (left : List ℕ) (relation : List (List ℕ)) (tokens : List Token) → braces_form left relation tokens ≡ braces_run left relation (at_bracket tokens)
braces_form_run left relation [] = refl
braces_form_run left relation (Word word ∷ tokens) = braces_form_run left (relation ++ word ∷ []) tokens ∙ braces_run-onto left word relation (at_bracket tokens)
braces_form_run left relation (Bracket b ∷ tokens) = ap (λ r. if b == 125 then right_form left r (words_to 93 tokens) else NoForm) (sym (append-nil relation))

pub braces_none : (left : List ℕ) (tokens : List Token) → at_bracket tokens ≡ None → braces_form left [] tokens ≡ NoForm
braces_none left tokens e = braces_form_run left [] tokens ∙ ap (braces_run left []) e

pub braces_other : (left : List ℕ) (tokens : List Token) (words : List (List ℕ)) (b : ℕ) (after : List Token) → at_bracket tokens ≡ Some (words, b, after) → (b == 125) ≡ false → braces_form left [] tokens ≡ NoForm
braces_other left tokens words b after e at = braces_form_run left [] tokens ∙ ap (braces_run left []) e ∙ rw at refl

pub braces_end : (left : List ℕ) (tokens : List Token) (words : List (List ℕ)) (b : ℕ) (after : List Token) → at_bracket tokens ≡ Some (words, b, after) → (b == 125) ≡ true → braces_form left [] tokens ≡ right_form left words (words_to 93 after)
braces_end left tokens words b after e at = braces_form_run left [] tokens ∙ ap (braces_run left []) e ∙ rw at refl

pub ruleset run_rules = (onto_run-nil, run_takes, run_ends)

pub ruleset words_rules = (words_to_none, words_to_end, words_to_other, words_to_more, braces_none, braces_other, braces_end)

-- each line's form has a name in its row and two parts in its sum
well_if : (b : Bool) (f g : Form) → IsWell f → IsWell g → IsWell (if b then f else g)
well_if true f g a b = a
well_if false f g a b = b

well_row : (words : Option (List (List ℕ))) → IsWell (row_form words)
well_row None = tt
well_row (Some []) = tt
well_row (Some (w ∷ ws)) = omega arith

well_sum : (whole : List ℕ) (words : Option (List (List ℕ))) → IsWell (sum_form whole words)
well_sum whole None = tt
well_sum whole (Some []) = tt
well_sum whole (Some (p ∷ [])) = tt
well_sum whole (Some (p ∷ q ∷ ps)) = omega arith

well_right : (left : List ℕ) (relation : List (List ℕ)) (words : Option (List (List ℕ))) → IsWell (right_form left relation words)
well_right left relation None = tt
well_right left relation (Some []) = tt
well_right left relation (Some (r ∷ [])) = tt
well_right left relation (Some (r ∷ o ∷ ws)) = tt

well_braces : (left : List ℕ) (relation : List (List ℕ)) (tokens : List Token) → IsWell (braces_form left relation tokens)
well_braces left relation [] = tt
well_braces left relation (Word word ∷ tokens) = well_braces left (relation ++ word ∷ []) tokens
well_braces left relation (Bracket b ∷ tokens) = well_if (b == 125) (right_form left relation (words_to 93 tokens)) NoForm (well_right left relation (words_to 93 tokens)) tt

well_entry : (left : List ℕ) (tokens : List Token) → IsWell (entry_form left tokens)
well_entry left [] = tt
well_entry left (Word word ∷ tokens) =
    well_if (bytes_eq word (codes "sums")) (sum_form left (words_to 93 tokens)) (right_form left (word ∷ []) (words_to 93 tokens))
    (well_sum left (words_to 93 tokens)) (well_right left (word ∷ []) (words_to 93 tokens))
well_entry left (Bracket b ∷ tokens) = well_if (b == 123) (braces_form left [] tokens) NoForm (well_braces left [] tokens) tt

well_bracket : (tokens : List Token) → IsWell (bracket_form tokens)
well_bracket [] = tt
well_bracket (Word left ∷ tokens) = well_entry left tokens
well_bracket (Bracket b ∷ tokens) = tt

well_taxonomy : (tokens : List Token) → IsWell (taxonomy_form tokens)
well_taxonomy [] = tt
well_taxonomy (Word id ∷ tokens) = tt
well_taxonomy (Bracket b ∷ tokens) = tt

pub well_form : (tokens : List Token) → IsWell (form_of tokens)
well_form [] = tt
well_form (Word word ∷ tokens) =
    well_if (bytes_eq word (codes "taxonomy")) (taxonomy_form tokens) (if bytes_eq word (codes "articulation") || bytes_eq word (codes "articulations") then ArticulationLine else NoForm)
    (well_taxonomy tokens) (well_if (bytes_eq word (codes "articulation") || bytes_eq word (codes "articulations")) ArticulationLine NoForm tt tt)
well_form (Bracket b ∷ tokens) =
    well_if (b == 40) (row_form (words_to 41 tokens)) (if b == 91 then bracket_form tokens else NoForm)
    (well_row (words_to 41 tokens)) (well_if (b == 91) (bracket_form tokens) NoForm (well_bracket tokens) tt)
