-- What a log tells.
use Rattle.std.specs.Prelude.{◌≡◌, ℕ, Bool, if◌then◌else◌, List, [], ◌∷◌, ◌++◌, Option, Some, None, option_map, option_and_then, IfSome}
use Rattle.std.specs.List.{flat_map}
use Rattle.std.specs.Result.{result_ok}
use Rattle.proof_text.specs.Words.{words_of}
use Rattle.cert_text.specs.declared.line.CertLine.{CertLine}
use Rattle.cert_text.specs.Lines.{cert_line_of, cert_text}

-- the lines so far, where they are told
abbrev pub Told : Type 0
Told = Option (List CertLine)

-- the told lines and one more
abbrev pub with_line : Told → CertLine → Told
with_line told line = option_map (λ lines. lines ++ line ∷ []) told

-- where lines were told, they are told with one more behind them
abbrev pub IsToldWith : Told → CertLine → Told → Type 0
IsToldWith old line new = IfSome old (λ lines. new ≡ Some (lines ++ line ∷ []))

-- no line is left behind the last LF
abbrev pub none_behind : List ℕ → Told
none_behind [] = Some []
none_behind (byte ∷ bytes) = None

-- the lines of the words between LFs, if each is a line but the last, which is empty
abbrev pub lines_of_words : List (List ℕ) → Told
lines_of_words [] = None
lines_of_words (word ∷ []) = none_behind word
lines_of_words (word ∷ next ∷ words) =
    option_and_then (λ line. option_map (λ lines. line ∷ lines) (lines_of_words (next ∷ words))) (result_ok (cert_line_of word))

-- the lines that bytes spell, if they are whole lines, each with the LF (10) that ends it
abbrev pub lines_in : List ℕ → Told
lines_in bytes = lines_of_words (words_of 10 bytes)

-- lines as text
abbrev pub lines_text : List CertLine → List ℕ
lines_text lines = flat_map (λ line. cert_text line ++ 10 ∷ []) lines

-- the lines that a name of a store holds, if no line was refused
abbrev pub lines_held : Bool → Option (List ℕ) → Told
lines_held refused held = if refused then None else option_and_then lines_in held
