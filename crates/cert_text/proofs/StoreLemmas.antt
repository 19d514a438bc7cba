-- The lines that bytes spell.
use Rattle.std.proofs.Common.{◌≡◌, ℕ, List, [], ◌∷◌, ◌++◌, append_assoc, append-nil, Bool, true, Option, Some, None, option_map, option_and_then, Result, Ok, Err, OnOk, refl, sym, ap, ◌∙◌, subst, false}
use Rattle.std.specs.List.{AllByRecursion, join_with_byte}
use Rattle.std.specs.Result.{result_ok}
use Rattle.std.proofs.lemmas.Grind.{flat_map-append}
use Rattle.std.proofs.lemmas.List.Splits.{join_with_byte-slice_split}
use Rattle.outer_store.specs.Bytes.{added}
use Rattle.proof_text.specs.declared.fault.LineTextFault.{LineTextFault}
use Rattle.proof_text.specs.Words.{words_of, parted}
use Rattle.proof_text.proofs.WordLemmas.{words_of-next, joined-parted}
use Rattle.cert_text.specs.declared.line.CertLine.{CertLine}
use Rattle.cert_text.specs.Lines.{cert_line_of, cert_text, IsCertLine}
use Rattle.cert_text.specs.Logs.{Told, IsToldWith, lines_of_words, lines_in, lines_text, lines_held}
use Rattle.cert_text.proofs.LineLemmas.{cert_line_of-text, cert_text-no_lf}
use Rattle.cert_text.proofs.OneTextLemmas.{cert_line_of-read}

-- the words of whole lines: the text of each, and an empty one
abbrev text_words : List CertLine → List (List ℕ)
text_words [] = [] ∷ []
text_words (line ∷ lines) = cert_text line ∷ text_words lines

abbrev pub AreLines : List CertLine → Type 0
AreLines lines = AllByRecursion IsCertLine lines

last_word : (word : List ℕ) (lines : List CertLine) → lines_of_words (word ∷ []) ≡ Some lines → (word ∷ [] ≡ text_words lines) × AreLines lines
last_word [] [] e = (refl, tt)
last_word [] (line ∷ lines) e = let none : [] ≡ line ∷ lines = cc in absurd (cc)
last_word (byte ∷ word) lines e = absurd (cc)

-- words that tell lines are their texts
told_words : (words : List (List ℕ)) (lines : List CertLine) → lines_of_words words ≡ Some lines → (words ≡ text_words lines) × AreLines lines
told_words [] lines e = absurd (cc)
told_words (word ∷ []) lines e = last_word word lines e
told_words (word ∷ next ∷ words) lines e = by (cert_line_of word) refl (lines_of_words (next ∷ words)) (λ others f. told_words (next ∷ words) others f) e
  where
    by : (read : Result CertLine LineTextFault) → cert_line_of word ≡ read → (rest : Told) →
        ((others : List CertLine) → rest ≡ Some others → (next ∷ words ≡ text_words others) × AreLines others) →
        option_and_then (λ line. option_map (λ lines. line ∷ lines) rest) (result_ok read) ≡ Some lines → (word ∷ next ∷ words ≡ text_words lines) × AreLines lines
    by (Err k) r rest f e = absurd (cc)
    by (Ok line) r None f e = absurd (cc)
    by (Ok line) r (Some others) f e =
        let same : line ∷ others ≡ lines = cc in
        let more = f others refl in
        let is = more.0 in
        let one = cert_line_of-read word line r in
        let text = one.0 in
        subst (λ lines. (word ∷ next ∷ words ≡ text_words lines) × AreLines lines) same ((λ i. text i ∷ is i), (one.1, more.1))

parted_text : (lines : List CertLine) → parted 10 (text_words lines) ≡ 10 ∷ lines_text lines
parted_text [] = refl
parted_text (line ∷ lines) =
    ap (λ text. (10 ∷ cert_text line) ++ text) (parted_text lines) ∙ ap (λ text. 10 ∷ text) (sym (append_assoc (cert_text line) (10 ∷ []) (lines_text lines)))

joined_text : (lines : List CertLine) → join_with_byte 10 (text_words lines) ≡ lines_text lines
joined_text [] = refl
joined_text (line ∷ lines) =
    joined-parted 10 (cert_text line) (text_words lines) ∙ ap (λ text. cert_text line ++ text) (parted_text lines) ∙ sym (append_assoc (cert_text line) (10 ∷ []) (lines_text lines))

words_text : (lines : List CertLine) → AreLines lines → words_of 10 (lines_text lines) ≡ text_words lines
words_text [] h = refl
words_text (line ∷ lines) h =
    ap (words_of 10) (append_assoc (cert_text line) (10 ∷ []) (lines_text lines))
    ∙ words_of-next 10 (cert_text line) (lines_text lines) (cert_text-no_lf line h.0)
    ∙ ap (λ words. cert_text line ∷ words) (words_text lines h.1)

one_more : (word : List ℕ) (words : List (List ℕ)) (line : CertLine) (lines : List CertLine) → cert_line_of word ≡ Ok line → lines_of_words words ≡ Some lines →
    lines_of_words (word ∷ words) ≡ Some (line ∷ lines)
one_more word [] line lines read e = cc
one_more word (next ∷ words) line lines read e =
    ap (λ read. option_and_then (λ line. option_map (λ lines. line ∷ lines) (lines_of_words (next ∷ words))) (result_ok read)) read
    ∙ ap (λ rest. option_map (λ lines. line ∷ lines) rest) e

told_text : (lines : List CertLine) → AreLines lines → lines_of_words (text_words lines) ≡ Some lines
told_text [] h = refl
told_text (line ∷ lines) h = one_more (cert_text line) (text_words lines) line lines (cert_line_of-text line h.0) (told_text lines h.1)

-- lines are read back from their text
pub lines_in-text : (lines : List CertLine) → AreLines lines → lines_in (lines_text lines) ≡ Some lines
lines_in-text lines h = ap lines_of_words (words_text lines h) ∙ told_text lines h

-- and bytes that spell lines are their text
pub text-lines_in : (bytes : List ℕ) (lines : List CertLine) → lines_in bytes ≡ Some lines → (bytes ≡ lines_text lines) × AreLines lines
text-lines_in bytes lines e =
    let told = told_words (words_of 10 bytes) lines e in
    (sym (join_with_byte-slice_split 10 bytes) ∙ ap (join_with_byte 10) told.0 ∙ joined_text lines, told.1)

behind_lines : (lines : List CertLine) (line : CertLine) → AreLines lines → IsCertLine line → AreLines (lines ++ line ∷ [])
behind_lines [] line h one = (one, tt)
behind_lines (first ∷ lines) line h one = (h.0, behind_lines lines line h.1 one)

text_behind : (lines : List CertLine) (line : CertLine) → lines_text (lines ++ line ∷ []) ≡ lines_text lines ++ (cert_text line ++ 10 ∷ [])
text_behind lines line =
    flat_map-append (λ line. cert_text line ++ 10 ∷ []) lines (line ∷ []) ∙ ap (λ text. lines_text lines ++ text) (append-nil (cert_text line ++ 10 ∷ []))

line_added : (bytes : List ℕ) (lines : List CertLine) (line : CertLine) → lines_in bytes ≡ Some lines → IsCertLine line →
    lines_in (bytes ++ (cert_text line ++ 10 ∷ [])) ≡ Some (lines ++ line ∷ [])
line_added bytes lines line e one =
    let told = text-lines_in bytes lines e in
    ap (λ text. lines_in (text ++ (cert_text line ++ 10 ∷ []))) told.0 ∙ ap lines_in (sym (text_behind lines line))
    ∙ lines_in-text (lines ++ line ∷ []) (behind_lines lines line told.1 one)

-- a line's text behind what a name holds tells one line more
pub told_added : (old new : Option (List ℕ)) (line : CertLine) → new ≡ added old (cert_text line ++ 10 ∷ []) → IsCertLine line →
    IsToldWith (lines_held false old) line (lines_held false new)
told_added None new line e one = tt
told_added (Some bytes) new line e one = by (lines_in bytes) refl
  where
    by : (told : Told) → lines_in bytes ≡ told → IsToldWith told line (lines_held false new)
    by None f = tt
    by (Some lines) f = ap (lines_held false) e ∙ line_added bytes lines line f one

-- what a name holds whose lines are told
pub told_bytes : (refused : Bool) (held : Option (List ℕ)) (lines : List CertLine) → lines_held refused held ≡ Some lines → (bytes : List ℕ) × (held ≡ Some bytes) × (lines_in bytes ≡ Some lines)
told_bytes true held lines e = absurd (cc)
told_bytes false None lines e = absurd (cc)
told_bytes false (Some bytes) lines e = (bytes, refl, e)

-- nothing behind told bytes, and one piece behind another
pub added_nothing : (held : Option (List ℕ)) → added held [] ≡ held
added_nothing None = refl
added_nothing (Some bytes) = ap Some (append-nil bytes)

pub added_twice : (held : Option (List ℕ)) (first second : List ℕ) → added (added held first) second ≡ added held (first ++ second)
added_twice None first second = refl
added_twice (Some bytes) first second = ap Some (append_assoc bytes first second)

-- where no text waits, a log's lines are those that its name holds
pub held_all : (refused : Bool) (held : Option (List ℕ)) (text : List ℕ) → text ≡ [] → lines_held refused (added held text) ≡ lines_held refused held
held_all refused held text none = ap (λ text. lines_held refused (added held text)) none ∙ ap (lines_held refused) (added_nothing held)

-- a line's text behind the text that waits tells one line more, whether it waits there or is appended
pub told_waiting : (old new : Option (List ℕ)) (before text left : List ℕ) (line : CertLine) → text ≡ before ++ (cert_text line ++ 10 ∷ []) → IsCertLine line → added new left ≡ added old text →
    IsToldWith (lines_held false (added old before)) line (lines_held false (added new left))
told_waiting old new before text left line is one same =
    told_added (added old before) (added new left) line (same ∙ ap (added old) is ∙ sym (added_twice old before (cert_text line ++ 10 ∷ []))) one
