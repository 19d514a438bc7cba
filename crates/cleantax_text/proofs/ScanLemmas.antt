-- A printed line, and its tokens.
use Rattle.std.proofs.Common.{◌≡◌, ◌+◌, ◌<◌, ◌≤◌, ◌==◌, ◌||◌, ℕ, Bool, true, false, not, List, [], ◌∷◌, ◌++◌, Some, Ok, length, map, refl, sym, ap, ◌∙◌, arith, append_assoc, IsUtf8}
use Rattle.std.specs.Prelude.{option_map, nat_le, ◌&&◌, ◌||◌}
use Rattle.std.specs.List.{list_all, AllByRecursion, position_or_len, before_first}
use Rattle.std.proofs.lemmas.Bool.{and_parts, and_from, ne_eqb, leb-true, not-true, true≢false}
use Rattle.std.proofs.lemmas.List.{append-nil, take_all}
use Rattle.std.proofs.lemmas.List.Folds.{list_all-append}
use Rattle.std.proofs.lemmas.List.Splits.{slice_split_at}
use Rattle.std.proofs.lemmas.List.Sums.{AllPass-from_list_all}
use Rattle.std.proofs.lemmas.Str.{IsUtf8-nil, IsUtf8-append, IsUtf8-from_ascii}
use Rattle.std.proofs.lemmas.Str.Ascii.{IsAscii-from_all}
use Rattle.std.proofs.lemmas.List.Elements.{All-weaker}
use Rattle.text_words.specs.Tokens.{Bracket, Word, is_line_end, is_hash, is_blank, is_bracket, lines_of, without_return, bare, tokens_after}
use Rattle.text_words.specs.Words.{is_name_byte, is_name}
use Rattle.cleantax_text.specs.Forms.{form_of, words_to}
use Rattle.text_words.specs.Views.{ends_word}
use Rattle.cleantax_text.specs.Canonical.{spaced}
use Rattle.cleantax_text.specs.Reading.{Reading, after_form, after_lines, and_then}
use Rattle.cleantax_text.proofs.NamedLemmas.{is_plain, is_word_byte, IsClean}

-- a byte that may stand in a printed line: no control byte and no hash
abbrev pub is_printed : ℕ → Bool
is_printed b = nat_le 32 b && is_plain b

pub record IsPrinted (text : List ℕ) : Type 0 where
  pub bytes : list_all is_printed text ≡ true
  pub utf8 : IsUtf8 text

pub printed_append : (xs ys : List ℕ) → IsPrinted xs → IsPrinted ys → IsPrinted (xs ++ ys)
printed_append xs ys a b = record { bytes = list_all-append is_printed xs ys ∙ and_from _ _ a.bytes b.bytes; utf8 = IsUtf8-append xs ys a.utf8 b.utf8 }

pub printed_nil : IsPrinted []
printed_nil = record { bytes = refl; utf8 = IsUtf8-nil }

-- ASCII bytes that are printed
abbrev is_low : ℕ → Bool
is_low b = nat_le b 127

low_utf8 : (xs : List ℕ) → list_all is_low xs ≡ true → IsUtf8 xs
low_utf8 xs e = IsUtf8-from_ascii xs (IsAscii-from_all xs (All-weaker (λ b. is_low b ≡ true) (λ b. b < 128) (λ b h. let le = leb-true b 127 h in omega arith) xs (AllPass-from_list_all is_low xs e)))

pub printed_low : (xs : List ℕ) → list_all is_printed xs ≡ true → list_all is_low xs ≡ true → IsPrinted xs
printed_low xs e f = record { bytes = e; utf8 = low_utf8 xs f }

named_bytes : (xs : List ℕ) → list_all is_name_byte xs ≡ true → list_all is_word_byte xs ≡ true → list_all is_printed xs ≡ true
named_bytes [] e f = refl
named_bytes (x ∷ xs) e f =
    let a = and_parts (is_name_byte x) (list_all is_name_byte xs) e in
    let b = and_parts (is_word_byte x) (list_all is_word_byte xs) f in
    and_from (is_printed x) (list_all is_printed xs)
    (and_from (nat_le 32 x) (is_plain x) (and_parts (nat_le 32 x) (not (x == 127)) a.0).0 (and_parts (is_plain x) (not (ends_word x)) b.0).0)
    (named_bytes xs a.1 b.1)

-- a name is printed
pub printed_name : (word : List ℕ) → IsClean word → is_name word ≡ true → IsPrinted word
printed_name word c e =
    let a = and_parts (nat_le 1 (length word) && nat_le (length word) 128) (list_all is_name_byte word) e in
    record { bytes = named_bytes word a.1 c.bytes; utf8 = c.utf8 }

pub some_name : (word : List ℕ) → is_name word ≡ true → 0 < length word
some_name word e =
    let a = and_parts (nat_le 1 (length word) && nat_le (length word) 128) (list_all is_name_byte word) e in
    let b = and_parts (nat_le 1 (length word)) (nat_le (length word) 128) a.0 in
    let le = leb-true 1 (length word) b.0 in
    omega arith

pub printed_spaced : (words : List (List ℕ)) → AllByRecursion IsPrinted words → IsPrinted (spaced words)
printed_spaced [] h = printed_nil
printed_spaced (w ∷ ws) h = printed_append (32 ∷ w) (spaced ws) (printed_append (32 ∷ []) w (printed_low (32 ∷ []) refl refl) h.0) (printed_spaced ws h.1)

-- a printed line has no return and no comment
printed_least : (b : ℕ) → is_printed b ≡ true → 32 ≤ b
printed_least b e = leb-true 32 b (and_parts (nat_le 32 b) (is_plain b) e).0

not_this : (b n : ℕ) → is_printed b ≡ true → n < 32 → (b == n) ≡ false
not_this b n e lt = let least = printed_least b e in ne_eqb b n (λ same. omega arith)

kept_whole : (line : List ℕ) → list_all is_printed line ≡ true → without_return line ≡ line
kept_whole [] e = refl
kept_whole (b ∷ []) e =
    let a = and_parts (is_printed b) true e in
    let n : (b == 13) ≡ false = not_this b 13 a.0 (omega arith) in
    rw n refl
kept_whole (b ∷ c ∷ bs) e = let a = and_parts (is_printed b) (list_all is_printed (c ∷ bs)) e in ap (λ rest. b ∷ rest) (kept_whole (c ∷ bs) a.1)

no_hash_cut : (line : List ℕ) → list_all is_printed line ≡ true → length line ≤ position_or_len is_hash line
no_hash_cut [] e = omega arith
no_hash_cut (b ∷ bs) e =
    let a = and_parts (is_printed b) (list_all is_printed bs) e in
    let plain : is_plain b ≡ true = (and_parts (nat_le 32 b) (is_plain b) a.0).1 in
    let more : position_or_len is_hash (b ∷ bs) ≡ 1 + position_or_len is_hash bs = rw plain refl in
    omega (arith, more, no_hash_cut bs a.1)

pub bare_printed : (line : List ℕ) → list_all is_printed line ≡ true → bare line ≡ line
bare_printed line e = ap (before_first is_hash) (kept_whole line e) ∙ take_all (position_or_len is_hash line) line (no_hash_cut line e)

-- a line apart from what follows it
pub line_apart : (line rest : List ℕ) → list_all is_printed line ≡ true → lines_of (line ++ 10 ∷ rest) ≡ line ∷ lines_of rest
line_apart line rest e =
    slice_split_at is_line_end line 10 rest
    (All-weaker (λ b. is_printed b ≡ true) (λ b. is_line_end b ≡ false) (λ b h. not_this b 10 h (omega arith)) line (AllPass-from_list_all is_printed line e)) refl

-- a text that is read from one state to another
pub record Reads (r : Reading) (text : List ℕ) (next : Reading) : Type 0 where
  pub utf8 : IsUtf8 text
  pub lines : (n : ℕ) (rest : List ℕ) → (m : ℕ) × (after_lines n r (lines_of (text ++ rest)) ≡ after_lines m next (lines_of rest))

pub reads_nothing : (r : Reading) → Reads r [] r
reads_nothing r = record { utf8 = IsUtf8-nil; lines = λ n rest. (n, refl) }

pub reads_more : (r s t : Reading) (a b : List ℕ) → Reads r a s → Reads s b t → Reads r (a ++ b) t
reads_more r s t a b x y = record {
  utf8 = IsUtf8-append a b x.utf8 y.utf8;
  lines = λ n rest.
      let first = x.lines n (b ++ rest) in
      let then = y.lines first.0 rest in
      (then.0, ap (λ l. after_lines n r (lines_of l)) (append_assoc a b rest) ∙ first.1 ∙ then.1);
}

pub reads_line : (r next : Reading) (line : List ℕ) → IsPrinted line → after_form r (form_of (tokens_after [] line)) ≡ Ok next → Reads r (line ++ 10 ∷ []) next
reads_line r next line p e = record {
  utf8 = IsUtf8-append line (10 ∷ []) p.utf8 (low_utf8 (10 ∷ []) refl);
  lines = λ n rest. (
    n + 1,
    ap (λ l. after_lines n r (lines_of l)) (append_assoc line (10 ∷ []) rest)
        ∙ ap (after_lines n r) (line_apart line rest p.bytes)
        ∙ ap (λ made. and_then n made (λ m. after_lines (n + 1) m (lines_of rest))) (ap (λ l. after_form r (form_of (tokens_after [] l))) (bare_printed line p.bytes) ∙ e),
  );
}

-- the tokens of a word before a bracket, a blank or the end of the line
abbrev pub EndsWord : List ℕ → Type 0
EndsWord [] = Unit {0}
EndsWord (b ∷ bs) = ends_word b ≡ true

word_goes_on : (before word rest : List ℕ) → list_all is_word_byte word ≡ true → tokens_after before (word ++ rest) ≡ tokens_after (before ++ word) rest
word_goes_on before [] rest e = ap (λ w. tokens_after w rest) (sym (append-nil before))
word_goes_on before (b ∷ bs) rest e =
    let a = and_parts (is_word_byte b) (list_all is_word_byte bs) e in
    let ends : ends_word b ≡ false = not-true (ends_word b) (and_parts (is_plain b) (not (ends_word b)) a.0).1 in
    let parts = or_none (is_blank b) (is_bracket b) ends in
    here (is_blank b) refl (is_bracket b) refl parts.0 parts.1 (word_goes_on (before ++ b ∷ []) bs rest a.1)
  where
    or_none : (p q : Bool) → (p || q) ≡ false → (p ≡ false) × (q ≡ false)
    or_none true q h = absurd (cc)
    or_none false true h = absurd (cc)
    or_none false false h = (refl, refl)

    here : (p : Bool) → is_blank b ≡ p → (q : Bool) → is_bracket b ≡ q → p ≡ false → q ≡ false
        → tokens_after (before ++ b ∷ []) (bs ++ rest) ≡ tokens_after ((before ++ b ∷ []) ++ bs) rest
        → tokens_after before ((b ∷ bs) ++ rest) ≡ tokens_after (before ++ b ∷ bs) rest
    here p e q f x y more =
        let no_blank : is_blank b ≡ false = e ∙ x in
        let no_bracket : is_bracket b ≡ false = f ∙ y in
        rw (no_blank, no_bracket) (more ∙ ap (λ w. tokens_after w rest) (append_assoc before (b ∷ []) bs))

word_stops : (b : ℕ) (bs rest : List ℕ) → EndsWord rest → tokens_after (b ∷ bs) rest ≡ Word (b ∷ bs) ∷ tokens_after [] rest
word_stops b bs [] e = refl
word_stops b bs (c ∷ cs) e = by (is_blank c) refl (is_bracket c) refl e
  where
    by : (p : Bool) → is_blank c ≡ p → (q : Bool) → is_bracket c ≡ q → (is_blank c || is_bracket c) ≡ true → tokens_after (b ∷ bs) (c ∷ cs) ≡ Word (b ∷ bs) ∷ tokens_after [] (c ∷ cs)
    by true x q y h = rw x refl
    by false x true y h = rw (x, y) refl
    by false x false y h = absurd (let none : (is_blank c || is_bracket c) ≡ false = rw (x, y) refl in true≢false (sym h ∙ none))

pub scan_word : (word rest : List ℕ) → 0 < length word → list_all is_word_byte word ≡ true → EndsWord rest → tokens_after [] (word ++ rest) ≡ Word word ∷ tokens_after [] rest
scan_word [] rest some e h = absurd (omega arith)
scan_word (b ∷ bs) rest some e h = word_goes_on [] (b ∷ bs) rest e ∙ word_stops b bs rest h

-- words with a blank before each
pub record IsWord (word : List ℕ) : Type 0 where
  pub some : 0 < length word
  pub bytes : list_all is_word_byte word ≡ true

pub spaced_ends : (words : List (List ℕ)) (rest : List ℕ) → EndsWord rest → EndsWord (spaced words ++ rest)
spaced_ends [] rest h = h
spaced_ends (w ∷ ws) rest h = refl

pub scan_spaced : (words : List (List ℕ)) (rest : List ℕ) → AllByRecursion IsWord words → EndsWord rest → tokens_after [] (spaced words ++ rest) ≡ map Word words ++ tokens_after [] rest
scan_spaced [] rest h e = refl
scan_spaced (w ∷ ws) rest h e =
    ap (tokens_after []) (append_assoc (32 ∷ w) (spaced ws) rest)
    ∙ scan_word w (spaced ws ++ rest) h.0.some h.0.bytes (spaced_ends ws rest e)
    ∙ ap (λ ts. Word w ∷ ts) (scan_spaced ws rest h.1 e)

-- words up to a bracket that ends the line
pub words_before : (close : ℕ) (words : List (List ℕ)) → (close == close) ≡ true → words_to close (map Word words ++ Bracket close ∷ []) ≡ Some words
words_before close [] e = rw e refl
words_before close (w ∷ ws) e = ap (option_map (λ rest. w ∷ rest)) (words_before close ws e)

pub word_of_name : (word : List ℕ) → IsClean word → is_name word ≡ true → IsWord word
word_of_name word c e = record { some = some_name word e; bytes = c.bytes }
