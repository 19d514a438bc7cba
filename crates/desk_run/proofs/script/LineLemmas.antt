-- The lines of a script, one after the other.
use Rattle.std.proofs.Common.{◌≡◌, ◌+◌, ℕ, List, [], ◌∷◌, ◌++◌, Option, Ok, Err, refl, sym, ap, ◌∙◌, append_assoc}
use Rattle.std.specs.Borrow.{Bor}
use Rattle.world_model.specs.Problem.{Problem}
use Rattle.text_words.specs.Tokens.{lines_of, words_in}
use Rattle.cleantax_text.specs.Whole.{lines_left}
use Rattle.cleantax_text.proofs.TextLemmas.{lines_cut}
use Rattle.desk_run.specs.declared.script.ScriptKind.{ScriptKind}
use Rattle.desk_run.specs.declared.script.requests.DeskRequest.{DeskRequest}
use Rattle.desk_run.specs.Script.Script.{Outcome, onto, before_rest, with_line, request_of, script_lines}

onto-append : (requests more : List DeskRequest) (rest : Outcome) → onto requests (onto more rest) ≡ onto (requests ++ more) rest
onto-append requests more (Ok others) = ap Ok (sym (append_assoc requests more others))
onto-append requests more (Err fault) = refl

-- a line without words
pub line_passed : (p : Problem) (number : ℕ) (line : List ℕ) (lines : List (List ℕ)) → words_in line ≡ [] → script_lines p number (line ∷ lines) ≡ script_lines p (number + 1) lines
line_passed p number line lines none = ap (λ words. with_line p number words (script_lines p (number + 1) lines)) none

-- a line with a request, behind the requests so far
line_taken : (p : Problem) (number : ℕ) (line slot : List ℕ) (words lines : List (List ℕ)) (request : DeskRequest) (requests : List DeskRequest)
    → words_in line ≡ slot ∷ words → request_of p slot words ≡ Ok request
    → onto requests (script_lines p number (line ∷ lines)) ≡ onto (requests ++ request ∷ []) (script_lines p (number + 1) lines)
line_taken p number line slot words lines request requests cut good =
    ap (λ w. onto requests (with_line p number w (script_lines p (number + 1) lines))) cut
    ∙ ap (λ r. onto requests (before_rest number r (script_lines p (number + 1) lines))) good
    ∙ onto-append requests (request ∷ []) (script_lines p (number + 1) lines)

-- a line with a fault
pub line_refused : (p : Problem) (number : ℕ) (line slot : List ℕ) (words lines : List (List ℕ)) (kind : ScriptKind)
    → words_in line ≡ slot ∷ words → request_of p slot words ≡ Err kind → script_lines p number (line ∷ lines) ≡ Err (number, kind)
line_refused p number line slot words lines kind cut bad =
    ap (λ w. with_line p number w (script_lines p (number + 1) lines)) cut ∙ ap (λ r. before_rest number r (script_lines p (number + 1) lines)) bad

-- the loop over the lines takes a request
pub turn_taken : (p : Problem) (number : ℕ) (here line slot : List ℕ) (after : Option (Bor (List ℕ))) (words : List (List ℕ)) (request : DeskRequest) (requests pushed : List DeskRequest) (whole : Outcome)
    → whole ≡ onto requests (script_lines p number (lines_of here)) → lines_of here ≡ line ∷ lines_left after
    → words_in line ≡ slot ∷ words → request_of p slot words ≡ Ok request → pushed ≡ requests ++ request ∷ []
    → whole ≡ onto pushed (script_lines p (number + 1) (lines_left after))
turn_taken p number here line slot after words request requests pushed whole so_far first cut good push =
    so_far
    ∙ ap (λ lines. onto requests (script_lines p number lines)) first
    ∙ line_taken p number line slot words (lines_left after) request requests cut good
    ∙ ap (λ items. onto items (script_lines p (number + 1) (lines_left after))) (sym push)

pub ruleset line_rules = (lines_cut, line_passed, line_refused)
