-- What a line at the front of a text, or a text with no LF, is read as.
use Rattle.std.proofs.Common.{◌≡◌, ◌≢◌, ℕ, ◌+◌, ◌^◌, ◌<◌, false, cond, eqb, List, [], ◌∷◌, ◌++◌, length, length-append, Some, None, Err, refl, sym, ap, ◌∙◌, arith}
use Rattle.std.specs.List.{onto_first, join_with_byte}
use Rattle.std.proofs.lemmas.Bool.{lt-ltb, or_parts}
use Rattle.std.proofs.lemmas.List.Splits.{slice_split-cons_no, join_with_byte-slice_split}
use Rattle.proof_text.specs.Words.{words_of}
use Rattle.proof_text.specs.Laws.{has_byte}
use Rattle.proof_text.proofs.WordLemmas.{words_of-next, words_of-last}
use Rattle.cert_reader.specs.declared.spot.Spot.{Spot}
use Rattle.cert_reader.specs.declared.fault.CertTextKind.TheVariants.{EndsEarly, BadLine, TooLong}
use Rattle.cert_reader.specs.Reading.{faulty, is_over, rest_fault, line_read, line_in, line_at, ending, going_on, reading_of, reading_from}

-- a text has words, be it empty
pub words_some : (separator : ℕ) (text : List ℕ) → words_of separator text ≢ []
words_some separator text = λ e.
    let empty : text ≡ [] = sym (join_with_byte-slice_split separator text) ∙ ap (join_with_byte separator) e in
    let one : words_of separator text ≡ [] ∷ [] = ap (words_of separator) empty in
    absurd (cc)

reading-step : (spot : Spot) (bytes : List ℕ) (pieces : List (List ℕ)) → pieces ≢ [] → reading_of spot (bytes ∷ pieces) ≡ going_on spot (line_at spot bytes) (λ after. reading_of after pieces)
reading-step spot bytes [] some = absurd (some refl)
reading-step spot bytes (next ∷ pieces) some = refl

-- a line up to its LF, and what follows
pub reading_line : (spot : Spot) (line rest : List ℕ) → has_byte 10 line ≡ false → reading_from spot (line ++ 10 ∷ rest) ≡ going_on spot (line_at spot line) (λ after. reading_from after rest)
reading_line spot line rest clean = ap (reading_of spot) (words_of-next 10 line rest clean) ∙ reading-step spot line (words_of 10 rest) (words_some 10 rest)

-- a rest with no LF
pub reading_rest : (spot : Spot) (rest : List ℕ) → has_byte 10 rest ≡ false → reading_from spot rest ≡ ending spot (rest_fault spot rest)
reading_rest spot rest clean = ap (reading_of spot) (words_of-last 10 rest clean)

-- bytes with no separator stand at the front of the first word
pub glued : (separator : ℕ) (front rest word : List ℕ) (words : List (List ℕ)) → has_byte separator front ≡ false → words_of separator rest ≡ word ∷ words →
    words_of separator (front ++ rest) ≡ (front ++ word) ∷ words
glued separator [] rest word words clean e = e
glued separator (x ∷ front) rest word words clean e =
    let parts = or_parts (eqb x separator) (has_byte separator front) clean in
    slice_split-cons_no (λ b. eqb b separator) x (front ++ rest) parts.0 ∙ ap (onto_first x) (glued separator front rest word words parts.1 e)

long_piece : (spot : Spot) (bytes : List ℕ) (pieces : List (List ℕ)) → 2 ^ 36 < spot.place + length bytes → reading_of spot (bytes ∷ pieces) ≡ faulty spot TooLong
unfolding rest_fault line_at
long_piece spot bytes [] long =
    ap (λ b. ending spot (cond b (Some TooLong) (cond (is_over spot.mode) (cond (eqb (length bytes) 0) None (Some BadLine)) (Some EndsEarly)))) (lt-ltb (2 ^ 36) (spot.place + length bytes) long)
long_piece spot bytes (next ∷ pieces) long =
    ap (λ b. going_on spot (cond b (Err TooLong) (line_read spot bytes (line_in spot.mode (words_of 32 bytes)))) (λ after. reading_of after (next ∷ pieces)))
    (lt-ltb (2 ^ 36) (spot.place + (length bytes + 1)) (omega (arith, long)))

long_cases : (spot : Spot) (front rest : List ℕ) (words : List (List ℕ)) → has_byte 10 front ≡ false → 2 ^ 36 < spot.place + length front → words_of 10 rest ≡ words → reading_from spot (front ++ rest) ≡ faulty spot TooLong
long_cases spot front rest [] clean long e = absurd (words_some 10 rest e)
long_cases spot front rest (word ∷ words) clean long e =
    ap (reading_of spot) (glued 10 front rest word words clean e) ∙ long_piece spot (front ++ word) words (omega (arith, long, length-append front word))

-- more bytes with no LF than there is room for
pub reading_long : (spot : Spot) (front rest : List ℕ) → has_byte 10 front ≡ false → 2 ^ 36 < spot.place + length front → reading_from spot (front ++ rest) ≡ faulty spot TooLong
reading_long spot front rest clean long = long_cases spot front rest (words_of 10 rest) clean long refl
