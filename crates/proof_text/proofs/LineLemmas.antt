-- A line is read back from its words, and from no others.
use Rattle.std.proofs.Common.{◌≡◌, ℕ, ◌^◌, ◌<◌, Bool, true, false, cond, List, [], ◌∷◌, ◌++◌, append-nil, codes, decimal, bytes_eq, Option, Some, Result, Ok, Err, All, IfOk, OnOk, refl, sym, ap, subst, ◌∙◌, arith}
use Rattle.std.specs.List.{AllByRecursion, join_with_byte}
use Rattle.std.proofs.lemmas.List.Elements.{recursion_from_All, All-from_recursion}
use Rattle.std.proofs.lemmas.List.Splits.{join_with_byte-slice_split}
use Rattle.std.proofs.lemmas.Slice.Eq.{bytes_eq-Decides}
use Rattle.std.proofs.lemmas.Bool.Decides.{nat_tests}
use Rattle.lits_core.specs.declared.Line.{Line}
use Rattle.lits_core.specs.declared.Line.TheVariants.{Derive, Forget}
use Rattle.proof_text.specs.declared.fault.LineTextFault.{LineTextFault}
use Rattle.proof_text.specs.declared.fault.LineTextFault.TheVariants.{BadLine}
use Rattle.proof_text.specs.Words.{words_of}
use Rattle.lits_core.specs.Derivation.{FromOne}
use Rattle.proof_text.specs.Lines.{◌>>=◌, zero_word, id_in, literal_in, literal_text, item_at, first_of, list_of, whole, derive_of, forget_of, line_of_words, line_of, list_words, line_words, line_text, IsId, IsLine, Gives}
use Rattle.proof_text.specs.Laws.{has_byte}
use Rattle.proof_text.proofs.WordLemmas.{words_of-joined, joined-clean}
use Rattle.proof_text.proofs.ItemLemmas.{IsWordOf, item_at-ok, id-word, id-text, literal-word, literal-text}
use Rattle.proof_text.proofs.ListLemmas.{list_cases, list_of-cases}

-- what holds of each, made of what held before
pub each : {X : Type 0} {P Q : X → Type 0} → ((x : X) → P x → Q x) → (xs : List X) → AllByRecursion P xs → AllByRecursion Q xs
each f [] h = tt
each f (x ∷ xs) h = (f x h.0, each f xs h.1)

-- a list is read back from its words, whatever follows them
list_of-words : (item : List ℕ → Option ℕ) (text : ℕ → List ℕ) (items : List ℕ) (rest : List (List ℕ)) → AllByRecursion (λ x. IsWordOf item x (text x)) items →
    list_of item (list_words text items ++ rest) ≡ Ok (items, rest)
unfolding list_cases
list_of-words item text [] rest h = refl
list_of-words item text (x ∷ items) rest h =
    let words = list_words text items ++ rest in
    list_of-cases item (text x) words
    ∙ ap (λ b. list_cases item words b (item_at item (text x))) h.0.other
    ∙ ap (λ read. list_cases item words false read) h.0.read
    ∙ ap (λ read. read >>= λ others. Ok (x ∷ others.0, others.1)) (list_of-words item text items rest h.1)

-- a byte below `-` (45) is in no word
abbrev pub AreClean : ℕ → List (List ℕ) → Type 0
AreClean byte words = AllByRecursion (λ word. has_byte byte word ≡ false) words

clean_words : (byte : ℕ) → byte < 45 → (item : List ℕ → Option ℕ) (text : ℕ → List ℕ) (items : List ℕ) (rest : List (List ℕ)) →
    AllByRecursion (λ x. IsWordOf item x (text x)) items → AreClean byte rest → AreClean byte (list_words text items ++ rest)
clean_words byte low item text [] rest h clean = (other_digit byte low, clean)
  where
    other_digit : (byte : ℕ) → byte < 45 → has_byte byte zero_word ≡ false
    other_digit byte low = grind (arith, nat_tests)
clean_words byte low item text (x ∷ items) rest h clean = (h.0.clean byte low, clean_words byte low item text items rest h.1 clean)

id_words : (ids : List ℕ) → All IsId ids → AllByRecursion (λ id. IsWordOf id_in id (decimal id)) ids
id_words ids h = each id-word ids (recursion_from_All IsId ids h)

literal_words : (lits : List ℕ) → All (λ lit. lit < 2 ^ 32) lits → AllByRecursion (λ lit. IsWordOf literal_in lit (literal_text lit)) lits
literal_words lits h = each literal-word lits (recursion_from_All (λ lit. lit < 2 ^ 32) lits h)

list_of-ids : (ids : List ℕ) → All IsId ids → list_of id_in (list_words decimal ids) ≡ Ok (ids, [])
list_of-ids ids h =
    ap (λ words. list_of id_in words) (sym (append-nil (list_words decimal ids))) ∙ list_of-words id_in decimal ids [] (id_words ids h)

clean_ids : (byte : ℕ) → byte < 45 → (ids : List ℕ) → All IsId ids → AreClean byte (list_words decimal ids)
clean_ids byte low ids h =
    subst (AreClean byte) (append-nil (list_words decimal ids)) (clean_words byte low id_in decimal ids [] (id_words ids h) tt)

-- no byte below `-` is in a word of a line
pub clean_line : (byte : ℕ) → byte < 45 → (line : Line) → IsLine line → AreClean byte (line_words line)
clean_line byte low (Derive id lits hints) h = (
  other_letter byte low,
  (
    (id-word id h.0).clean byte low,
    clean_words byte low literal_in literal_text lits (list_words decimal hints) (literal_words lits h.1) (clean_ids byte low hints h.2),
  ),
)
  where
    other_letter : (byte : ℕ) → byte < 45 → has_byte byte (codes "d") ≡ false
    other_letter byte low = grind (arith, nat_tests)
clean_line byte low (Forget ids) h = (other_letter byte low, clean_ids byte low ids h)
  where
    other_letter : (byte : ℕ) → byte < 45 → has_byte byte (codes "k") ≡ false
    other_letter byte low = grind (arith, nat_tests)

pub derive_of-words : (id : ℕ) (lits hints : List ℕ) → IsLine (Derive id lits hints) →
    derive_of (decimal id ∷ list_words literal_text lits ++ list_words decimal hints) ≡ Ok (Derive id lits hints)
unfolding derive_of
derive_of-words id lits hints h =
    let words = list_words literal_text lits ++ list_words decimal hints in
    let further : ℕ × List (List ℕ) → Result Line LineTextFault =
    λ id. list_of literal_in id.1 >>= λ lits. list_of id_in lits.1 >>= λ hints. whole hints.1 (Derive id.0 lits.0 hints.0) in
    ap (λ read. (read >>= λ x. Ok (x, words)) >>= further) (id-word id h.0).read
    ∙ ap (λ read. read >>= λ lits. list_of id_in lits.1 >>= λ hints. whole hints.1 (Derive id lits.0 hints.0)) (list_of-words literal_in literal_text lits (list_words decimal hints) (literal_words lits h.1))
    ∙ ap (λ read. read >>= λ hints. whole hints.1 (Derive id lits hints.0)) (list_of-ids hints h.2)

pub forget_of-words : (ids : List ℕ) → All IsId ids → forget_of (list_words decimal ids) ≡ Ok (Forget ids)
unfolding forget_of
forget_of-words ids h = ap (λ read. read >>= λ ids. whole ids.1 (Forget ids.0)) (list_of-ids ids h)

line_of_words-words : (line : Line) → IsLine line → line_of_words (line_words line) ≡ Ok line
unfolding line_of_words
line_of_words-words (Derive id lits hints) h = derive_of-words id lits hints h
line_of_words-words (Forget ids) h = forget_of-words ids h

-- the words of a line's text are its words
words_of-line : (line : Line) → IsLine line → words_of 32 (line_text line) ≡ line_words line
words_of-line (Derive id lits hints) h = words_of-joined 32 (codes "d") (decimal id ∷ list_words literal_text lits ++ list_words decimal hints) (clean_line 32 (omega arith) (Derive id lits hints) h)
words_of-line (Forget ids) h = words_of-joined 32 (codes "k") (list_words decimal ids) (clean_line 32 (omega arith) (Forget ids) h)

-- a line is read back from its text
pub line_of-text : (line : Line) → IsLine line → line_of (line_text line) ≡ Ok line
line_of-text line h = ap line_of_words (words_of-line line h) ∙ line_of_words-words line h

-- and has no LF
pub line_text-no_lf : (line : Line) → IsLine line → has_byte 10 (line_text line) ≡ false
line_text-no_lf line h = joined-clean 32 10 (line_words line) refl (clean_line 10 (omega arith) line h)

-- a step that gave a value
pub bind_ok : {A B : Type 0} (f : A → Result B LineTextFault) (read : Result A LineTextFault) (y : B) → (read >>= f) ≡ Ok y → (x : A) × (read ≡ Ok x) × (f x ≡ Ok y)
bind_ok f (Ok x) y e = (x, refl, e)
bind_ok f (Err k) y e = absurd (cc)

pub ok_same : {A : Type 0} (x y : A) → ◌≡◌ {A = Result A LineTextFault} (Ok x) (Ok y) → x ≡ y
ok_same x y e = cc

-- the items of a list are those that its words spell
abbrev IsRead : (ℕ → List ℕ) → (ℕ → Type 0) → List (List ℕ) → List ℕ × List (List ℕ) → Type 0
IsRead text P words y = (words ≡ list_words text y.0 ++ y.1) × AllByRecursion P y.0

list_of-cases_read : (item : List ℕ → Option ℕ) (text : ℕ → List ℕ) (P : ℕ → Type 0) → ((x : ℕ) (word : List ℕ) → item word ≡ Some x → (word ≡ text x) × P x) →
    (word : List ℕ) (words : List (List ℕ)) → ((y : List ℕ × List (List ℕ)) → list_of item words ≡ Ok y → IsRead text P words y) →
    (b : Bool) (y : List ℕ × List (List ℕ)) → bytes_eq word zero_word ≡ b → list_cases item words b (item_at item word) ≡ Ok y → IsRead text P (word ∷ words) y
unfolding list_cases
list_of-cases_read item text P spelled word words more true y same e =
    subst (IsRead text P (word ∷ words)) (ok_same ([], words) y e) (ap (λ w. w ∷ words) ((bytes_eq-Decides word zero_word).0 same), tt)
list_of-cases_read item text P spelled word words more false y same e =
    let first = bind_ok (λ x. list_of item words >>= λ others. Ok (x ∷ others.0, others.1)) (item_at item word) y e in
    let x = first.0 in
    let others = bind_ok (λ others. Ok (x ∷ others.0, others.1)) (list_of item words) y first.2 in
    let word_is = spelled x word (item_at-ok item word x first.1) in
    let read = more others.0 others.1 in
    subst (IsRead text P (word ∷ words)) (ok_same (x ∷ others.0.0, others.0.1) y others.2)
    (ap (λ w. w ∷ words) word_is.0 ∙ ap (λ ws. text x ∷ ws) read.0, (word_is.1, read.1))

list_of-read : (item : List ℕ → Option ℕ) (text : ℕ → List ℕ) (P : ℕ → Type 0) → ((x : ℕ) (word : List ℕ) → item word ≡ Some x → (word ≡ text x) × P x) →
    (words : List (List ℕ)) (y : List ℕ × List (List ℕ)) → list_of item words ≡ Ok y → IsRead text P words y
list_of-read item text P spelled [] y e = absurd (cc)
list_of-read item text P spelled (word ∷ words) y e =
    list_of-cases_read item text P spelled word words (list_of-read item text P spelled words) (bytes_eq word zero_word) y refl (sym (list_of-cases item word words) ∙ e)

first_of-read : (words : List (List ℕ)) (y : ℕ × List (List ℕ)) → first_of id_in words ≡ Ok y → (words ≡ decimal y.0 ∷ y.1) × IsId y.0
first_of-read [] y e = absurd (cc)
first_of-read (word ∷ words) y e =
    let first = bind_ok (λ x. Ok (x, words)) (item_at id_in word) y e in
    let word_is = id-text first.0 word (item_at-ok id_in word first.0 first.1) in
    subst (λ (y : ℕ × List (List ℕ)). (word ∷ words ≡ decimal y.0 ∷ y.1) × IsId y.0) (ok_same (first.0, words) y first.2) (ap (λ w. w ∷ words) word_is.0, word_is.1)

whole-read : (words : List (List ℕ)) (line read : Line) → whole words line ≡ Ok read → (words ≡ []) × (line ≡ read)
whole-read [] line read e = (refl, ok_same line read e)
whole-read (word ∷ words) line read e = absurd (cc)

-- the words of a line, behind the one of its kind
abbrev pub IsReadLine : List (List ℕ) → Line → Type 0
IsReadLine words line = (words ≡ line_words line) × IsLine line

derive_words : (id : ℕ) (lits hints : List ℕ) (words after_id after_lits after_hints : List (List ℕ)) → words ≡ decimal id ∷ after_id →
    after_id ≡ list_words literal_text lits ++ after_lits → after_lits ≡ list_words decimal hints ++ after_hints → after_hints ≡ [] →
    codes "d" ∷ words ≡ line_words (Derive id lits hints)
derive_words id lits hints words after_id after_lits after_hints at_id at_lits at_hints at_end =
    ap (λ ws. codes "d" ∷ ws) at_id ∙ ap (λ ws. codes "d" ∷ decimal id ∷ ws) at_lits ∙ ap (λ ws. codes "d" ∷ decimal id ∷ list_words literal_text lits ++ ws) at_hints
    ∙ ap (λ ws. codes "d" ∷ decimal id ∷ list_words literal_text lits ++ (list_words decimal hints ++ ws)) at_end
    ∙ ap (λ ws. codes "d" ∷ decimal id ∷ list_words literal_text lits ++ ws) (append-nil (list_words decimal hints))

-- a derive line from what was read in turn
derive_read : (id : ℕ × List (List ℕ)) (lits hints : List ℕ × List (List ℕ)) (words : List (List ℕ)) (line : Line) → first_of id_in words ≡ Ok id →
    list_of literal_in id.1 ≡ Ok lits → list_of id_in lits.1 ≡ Ok hints → whole hints.1 (Derive id.0 lits.0 hints.0) ≡ Ok line → IsReadLine (codes "d" ∷ words) line
derive_read id lits hints words line at_id at_lits at_hints at_end =
    let end = whole-read hints.1 (Derive id.0 lits.0 hints.0) line at_end in
    let id_is = first_of-read words id at_id in
    let lits_are = list_of-read literal_in literal_text (λ lit. lit < 2 ^ 32) literal-text id.1 lits at_lits in
    let hints_are = list_of-read id_in decimal IsId id-text lits.1 hints at_hints in
    subst (IsReadLine (codes "d" ∷ words)) end.1 (
      derive_words id.0 lits.0 hints.0 words id.1 lits.1 hints.1 id_is.0 lits_are.0 hints_are.0 end.0,
      (id_is.1, All-from_recursion (λ lit. lit < 2 ^ 32) lits.0 lits_are.1, All-from_recursion IsId hints.0 hints_are.1),
    )

pub derive_of-read : (words : List (List ℕ)) (line : Line) → derive_of words ≡ Ok line → IsReadLine (codes "d" ∷ words) line
unfolding derive_of
derive_of-read words line e =
    let id = bind_ok (λ id. list_of literal_in id.1 >>= λ lits. list_of id_in lits.1 >>= λ hints. whole hints.1 (Derive id.0 lits.0 hints.0)) (first_of id_in words) line e in
    let lits = bind_ok (λ lits. list_of id_in lits.1 >>= λ hints. whole hints.1 (Derive id.0.0 lits.0 hints.0)) (list_of literal_in id.0.1) line id.2 in
    let hints = bind_ok (λ hints. whole hints.1 (Derive id.0.0 lits.0.0 hints.0)) (list_of id_in lits.0.1) line lits.2 in
    derive_read id.0 lits.0 hints.0 words line id.1 lits.1 hints.1 hints.2

-- a forget line from what was read
forget_read : (ids : List ℕ × List (List ℕ)) (words : List (List ℕ)) (line : Line) → list_of id_in words ≡ Ok ids → whole ids.1 (Forget ids.0) ≡ Ok line →
    IsReadLine (codes "k" ∷ words) line
forget_read ids words line at_ids at_end =
    let end = whole-read ids.1 (Forget ids.0) line at_end in
    let ids_are = list_of-read id_in decimal IsId id-text words ids at_ids in
    subst (IsReadLine (codes "k" ∷ words)) end.1
    (ap (λ ws. codes "k" ∷ ws) (ids_are.0 ∙ ap (λ ws. list_words decimal ids.0 ++ ws) end.0 ∙ append-nil (list_words decimal ids.0)), All-from_recursion IsId ids.0 ids_are.1)

pub forget_of-read : (words : List (List ℕ)) (line : Line) → forget_of words ≡ Ok line → IsReadLine (codes "k" ∷ words) line
unfolding forget_of
forget_of-read words line e =
    let ids = bind_ok (λ ids. whole ids.1 (Forget ids.0)) (list_of id_in words) line e in
    forget_read ids.0 words line ids.1 ids.2

kind_cases : (word : List ℕ) (words : List (List ℕ)) (line : Line) (d k : Bool) → bytes_eq word (codes "d") ≡ d → bytes_eq word (codes "k") ≡ k →
    cond d (derive_of words) (cond k (forget_of words) (Err BadLine)) ≡ Ok line → IsReadLine (word ∷ words) line
kind_cases word words line true k is_d is_k e =
    subst (λ w. IsReadLine (w ∷ words) line) (sym ((bytes_eq-Decides word (codes "d")).0 is_d)) (derive_of-read words line e)
kind_cases word words line false true is_d is_k e =
    subst (λ w. IsReadLine (w ∷ words) line) (sym ((bytes_eq-Decides word (codes "k")).0 is_k)) (forget_of-read words line e)
kind_cases word words line false false is_d is_k e = absurd (cc)

line_of_words-read : (words : List (List ℕ)) (line : Line) → line_of_words words ≡ Ok line → IsReadLine words line
unfolding line_of_words
line_of_words-read [] line e = absurd (cc)
line_of_words-read (word ∷ words) line e = kind_cases word words line (bytes_eq word (codes "d")) (bytes_eq word (codes "k")) refl refl e

-- bytes that are read as a line are its text
pub line_of-read : (bytes : List ℕ) (line : Line) → line_of bytes ≡ Ok line → (bytes ≡ line_text line) × IsLine line
line_of-read bytes line e =
    let read = line_of_words-read (words_of 32 bytes) line e in
    (sym (join_with_byte-slice_split 32 bytes) ∙ ap (λ ws. join_with_byte 32 ws) read.0, read.1)

-- the text of a line whose literals a call shows to be small is read as the line
pub text_reads : {V E Q : Type 0} (line : Line) (r : Result V E) → OnOk r Q → (Q → IsLine line) → OnOk r (line_of (line_text line) ≡ Ok line)
text_reads line (Ok v) holds is_line = line_of-text line (is_line holds)
text_reads line (Err e) holds is_line = tt

pub line_text_reads : {V E : Type 0} (line : Line) (r : Result V E) → IsLine line → OnOk r (line_of (line_text line) ≡ Ok line)
line_text_reads line (Ok v) is_line = line_of-text line is_line
line_text_reads line (Err e) is_line = tt

-- what was read as a line is the line of its text, and has ids
pub gives_text : (bytes : List ℕ) (r : Result Line LineTextFault) → Gives (λ line. line) r (line_of bytes) → IfOk r (λ line. bytes ≡ line_text line)
gives_text bytes (Ok line) e = (line_of-read bytes line e).0
gives_text bytes (Err k) e = tt

has_ids : (line : Line) → IsLine line → FromOne line
has_ids (Derive id lits hints) h = (h.0.0, λ k d within. (h.2 k d within).0)
has_ids (Forget ids) h = λ k d within. (h k d within).0

pub gives_ids : (bytes : List ℕ) (r : Result Line LineTextFault) → Gives (λ line. line) r (line_of bytes) → IfOk r FromOne
gives_ids bytes (Ok line) e = has_ids line (line_of-read bytes line e).1
gives_ids bytes (Err k) e = tt
