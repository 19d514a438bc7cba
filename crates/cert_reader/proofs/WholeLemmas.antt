-- Lines that may stand one after another are read whole.
use Rattle.std.proofs.Common.{◌≡◌, ℕ, ◌+◌, ◌^◌, ◌≤◌, true, false, ◌&&◌, cond, List, [], ◌∷◌, ◌++◌, length, length-append, Some, None, option_map, option_and_then, Result, Ok, Err, refl, sym, ap, subst, ◌∙◌, arith}
use Rattle.std.specs.Prelude.{ok_or}
use Rattle.std.specs.List.{join_with_byte}
use Rattle.std.specs.Result.{result_ok}
use Rattle.std.proofs.lemmas.Bool.{le-ltb, and_parts}
use Rattle.std.proofs.lemmas.List.Splits.{join_with_byte-slice_split}
use Rattle.lits_core.specs.declared.Line.TheVariants.{Derive, Forget}
use Rattle.proof_text.specs.declared.fault.LineTextFault.{LineTextFault}
use Rattle.proof_text.specs.declared.fault.LineTextFault.TheVariants.{BadLine}
use Rattle.proof_text.specs.Words.{words_of}
use Rattle.proof_text.specs.Lines.{◌>>=◌}
use Rattle.proof_text.specs.Laws.{has_byte}
use Rattle.proof_text.proofs.WordLemmas.{words_of-next, words_of-last}
use Rattle.cert_text.specs.declared.line.CertLine.{CertLine}
use Rattle.cert_text.specs.declared.line.CertLine.TheVariants.{Certificate, Claims, Proof, Branch, NoPoint, NoRelation, World, Holds, Fails, End, Quit, Done}
use Rattle.cert_text.specs.Ends.{Whole}
use Rattle.cert_text.specs.Lines.{kind_word, kind_in, rest_of, cert_line_of_words, cert_line_of, cert_words}
use Rattle.cert_text.specs.Logs.{Told, none_behind, lines_of_words}
use Rattle.cert_text.proofs.OneTextLemmas.{cert_line_of-read}
use Rattle.cert_reader.specs.declared.mode.Mode.{Mode}
use Rattle.cert_reader.specs.declared.mode.Mode.TheVariants.{Header, Listing, Between, Block, Over}
use Rattle.cert_reader.specs.declared.spot.Spot.{Spot}
use Rattle.cert_reader.specs.declared.fault.CertTextKind.TheVariants.{TooLong, EndsEarly}
use Rattle.cert_reader.specs.Reading.{with_first, may_stand, fits_in, line_in, is_over, first_spot, spot_after, rest_fault, line_read, line_at, ending, going_on, reading_of}
use Rattle.cert_reader.specs.Laws.{kind_of_line, fits, stands, StandingLinesAreRead}

-- a line has the word of its kind before its other words, and the kind is found by it
record HasKindWord (line : CertLine) : Type 0 where
  others : List (List ℕ)
  words : cert_words line ≡ kind_word (kind_of_line line) ∷ others
  clean : has_byte 32 (kind_word (kind_of_line line)) ≡ false
  found : kind_in (kind_word (kind_of_line line)) ≡ Some (kind_of_line line)

has_kind_word : (line : CertLine) → HasKindWord line
unfolding kind_in
has_kind_word (Certificate switches from) = record { others = _; words = refl; clean = refl; found = refl }
has_kind_word (Claims switches) = record { others = _; words = refl; clean = refl; found = refl }
has_kind_word (Proof (Derive id lits hints)) = record { others = _; words = refl; clean = refl; found = refl }
has_kind_word (Proof (Forget ids)) = record { others = _; words = refl; clean = refl; found = refl }
has_kind_word (Branch depth last) = record { others = _; words = refl; clean = refl; found = refl }
has_kind_word (NoPoint depth last need clause) = record { others = _; words = refl; clean = refl; found = refl }
has_kind_word (NoRelation depth last pair) = record { others = _; words = refl; clean = refl; found = refl }
has_kind_word (World depth last family) = record { others = _; words = refl; clean = refl; found = refl }
has_kind_word (Holds subject family) = record { others = _; words = refl; clean = refl; found = refl }
has_kind_word (Fails subject) = record { others = _; words = refl; clean = refl; found = refl }
has_kind_word (End to) = record { others = _; words = refl; clean = refl; found = refl }
has_kind_word Quit = record { others = _; words = refl; clean = refl; found = refl }
has_kind_word Done = record { others = _; words = refl; clean = refl; found = refl }

-- a word without separators is the first of the text that joins it to others
first_word : (word : List ℕ) (words : List (List ℕ)) → has_byte 32 word ≡ false → (others : List (List ℕ)) × (words_of 32 (join_with_byte 32 (word ∷ words)) ≡ word ∷ others)
first_word word [] clean = ([], words_of-last 32 word clean)
first_word word (next ∷ words) clean = (_, words_of-next 32 word (join_with_byte 32 (next ∷ words)) clean)

-- bytes that are read as a line begin with the word of its kind
first_is_kind : (bytes : List ℕ) (line : CertLine) → cert_line_of bytes ≡ Ok line → (others : List (List ℕ)) × (words_of 32 bytes ≡ kind_word (kind_of_line line) ∷ others)
first_is_kind bytes line e =
    let b = has_kind_word line in
    let first = first_word (kind_word (kind_of_line line)) b.others b.clean in
    (first.0, ap (words_of 32) ((cert_line_of-read bytes line e).0 ∙ ap (join_with_byte 32) b.words) ∙ first.1)

-- a line that fits is what fits
fits_is : (mode : Mode) (line : CertLine) → fits mode line ≡ true → fits_in mode line ≡ Ok line
fits_is mode (Certificate switches from) h = refl
fits_is mode (Claims switches) h = refl
fits_is mode (Proof line) h = refl
fits_is mode (Branch depth last) h = refl
fits_is mode (NoPoint depth last need clause) h = refl
fits_is mode (NoRelation depth last pair) h = refl
fits_is mode (World depth last family) h = refl
fits_is mode (Holds subject family) h = refl
fits_is mode (Fails subject) h = refl
fits_is Header (End to) h = refl
fits_is Listing (End to) h = refl
fits_is Between (End to) h = refl
fits_is Block (End None) h = refl
fits_is Block (End (Some q)) h = absurd (cc)
fits_is Over (End to) h = refl
fits_is mode Quit h = refl
fits_is mode Done h = refl

-- a line that may stand in a mode, and fits there, is read there
read_there : (mode : Mode) (bytes : List ℕ) (line : CertLine) → cert_line_of bytes ≡ Ok line → may_stand mode (kind_of_line line) ≡ true → fits mode line ≡ true →
    line_in mode (words_of 32 bytes) ≡ Ok line
unfolding line_in cert_line_of_words
read_there mode bytes line e may fit =
    let k = kind_of_line line in
    let first = first_is_kind bytes line e in
    let found = (has_kind_word line).found in
    let rest : rest_of k first.0 ≡ Ok line =
    sym (ap (λ o. ok_or o BadLine >>= λ kind. rest_of kind first.0) found) ∙ sym (ap cert_line_of_words first.1) ∙ e in
    ap (line_in mode) first.1
    ∙ ap (λ o. ok_or o BadLine >>= λ kind. cond (may_stand mode kind) (rest_of kind first.0 >>= fits_in mode) (Err BadLine)) found
    ∙ ap (λ b. cond b (rest_of k first.0 >>= fits_in mode) (Err BadLine)) may
    ∙ ap (λ read. read >>= fits_in mode) rest ∙ fits_is mode line fit

-- and so it is at a spot from which there is room for it
read_at : (spot : Spot) (bytes : List ℕ) (line : CertLine) → cert_line_of bytes ≡ Ok line → may_stand spot.mode (kind_of_line line) ≡ true → fits spot.mode line ≡ true →
    spot.place + (length bytes + 1) ≤ 2 ^ 36 → line_at spot bytes ≡ Ok (line, spot_after spot bytes line)
unfolding line_at
read_at spot bytes line e may fit room =
    ap (λ b. cond b (Err TooLong) (line_read spot bytes (line_in spot.mode (words_of 32 bytes)))) (le-ltb (2 ^ 36) (spot.place + (length bytes + 1)) room)
    ∙ ap (line_read spot bytes) (read_there spot.mode bytes line e may fit)

-- nothing is left behind the last line
read_last : (spot : Spot) (word : List ℕ) (lines : List CertLine) → none_behind word ≡ Some lines → stands spot.mode lines ≡ true → spot.place ≤ 2 ^ 36 →
    ending spot (rest_fault spot word) ≡ record { lines = lines; ends = Whole }
unfolding rest_fault
read_last spot [] [] e stand room =
    ap (λ b. ending spot (cond b (Some TooLong) (cond (is_over spot.mode) None (Some EndsEarly)))) (le-ltb (2 ^ 36) (spot.place + 0) (omega (arith, room)))
    ∙ ap (λ b. ending spot (cond b None (Some EndsEarly))) stand
read_last spot [] (line ∷ lines) e stand room = let none : [] ≡ line ∷ lines = cc in absurd (cc)
read_last spot (byte ∷ word) lines e stand room = absurd (cc)

-- the first line that words tell, and the others
record FirstTold (read : Result CertLine LineTextFault) (rest : Told) (lines : List CertLine) : Type 0 where
  line : CertLine
  others : List CertLine
  is_read : read ≡ Ok line
  are_told : rest ≡ Some others
  both : line ∷ others ≡ lines

first_told : (read : Result CertLine LineTextFault) (rest : Told) (lines : List CertLine) →
    option_and_then (λ line. option_map (λ lines. line ∷ lines) rest) (result_ok read) ≡ Some lines → FirstTold read rest lines
first_told (Err k) rest lines e = absurd (cc)
first_told (Ok line) None lines e = absurd (cc)
first_told (Ok line) (Some others) lines e = record { line = line; others = others; is_read = refl; are_told = refl; both = cc }

-- words that tell lines are read as these from any spot from which they may stand and have room
read_from : (spot : Spot) (words : List (List ℕ)) (lines : List CertLine) → lines_of_words words ≡ Some lines → stands spot.mode lines ≡ true →
    spot.place + length (join_with_byte 10 words) ≤ 2 ^ 36 → reading_of spot words ≡ record { lines = lines; ends = Whole }
read_from spot [] lines e stand room = absurd (cc)
read_from spot (word ∷ []) lines e stand room = read_last spot word lines e stand (omega (arith, room))
read_from spot (word ∷ next ∷ words) lines e stand room =
    let told = first_told (cert_line_of word) (lines_of_words (next ∷ words)) lines e in
    let after = spot_after spot word told.line in
    let stood : stands spot.mode (told.line ∷ told.others) ≡ true = subst (λ lines. stands spot.mode lines ≡ true) (sym told.both) stand in
    let parts = and_parts (may_stand spot.mode (kind_of_line told.line) && fits spot.mode told.line) (stands after.mode told.others) stood in
    let here = and_parts (may_stand spot.mode (kind_of_line told.line)) (fits spot.mode told.line) parts.0 in
    let wide : spot.place + length (word ++ 10 ∷ join_with_byte 10 (next ∷ words)) ≤ 2 ^ 36 = room in
    let long = length-append word (10 ∷ join_with_byte 10 (next ∷ words)) in
    ap (λ read. going_on spot read (λ after. reading_of after (next ∷ words))) (read_at spot word told.line told.is_read here.0 here.1 (omega (arith, wide, long)))
    ∙ ap (with_first told.line) (read_from after (next ∷ words) told.others told.are_told parts.1 (omega (arith, wide, long)))
    ∙ ap (λ lines. record { lines = lines; ends = Whole }) told.both

pub standing_lines_are_read_law : StandingLinesAreRead
standing_lines_are_read_law = record {
  whole = λ bytes lines e stand room. read_from first_spot (words_of 10 bytes) lines e stand (omega (arith, room, ap length (join_with_byte-slice_split 10 bytes)));
}
