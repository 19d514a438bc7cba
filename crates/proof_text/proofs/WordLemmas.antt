-- The words of a text, taken off one by one.
use Rattle.std.proofs.Common.{◌≡◌, ℕ, ◌+◌, ◌<◌, ◌≤◌, Bool, true, false, ◌||◌, cond, eqb, ltb, List, [], ◌∷◌, ◌++◌, append-nil, append_assoc, length, take, drop, position, Some, None, refl, sym, ap, ◌∙◌, eq-eqb, arith}
use Rattle.std.specs.List.{position_or_len, onto_first, join_with_byte, AllByRecursion}
use Rattle.std.proofs.lemmas.Bool.{ltb-true, or_parts}
use Rattle.std.proofs.lemmas.List.Splits.{slice_split_none, slice_split_first, slice_split-cons_yes, slice_split-cons_no}
use Rattle.std.proofs.lemmas.List.Sums.{fails_before_first}
use Rattle.std.proofs.lemmas.Option.{cond_some}
use Rattle.std.proofs.lemmas.Bool.Decides.{nat_tests}
use Rattle.proof_text.specs.Words.{words_of, words_left, parted}
use Rattle.proof_text.specs.Laws.{has_byte}

-- a text with a separator has the word up to it, and then the words of the rest
pub words_left-some : (separator : ℕ) (text : List ℕ) (place : ℕ) → position (λ b. eqb b separator) text ≡ Some place →
    words_left separator false text ≡ take place text ∷ words_left separator false (drop (place + 1) text)
unfolding words_left
words_left-some separator text place found =
    let p : ℕ → Bool = λ b. eqb b separator in
    let split = cond_some (ltb (position_or_len p text) (length text)) (position_or_len p text) place found in
    let within = ltb-true _ _ split.0 in
    let first = slice_split_first p text 0 within in
    rw split.1 at first

pub position_within : (separator : ℕ) (text : List ℕ) (place : ℕ) → position (λ b. eqb b separator) text ≡ Some place → place < length text
position_within separator text place found =
    let p : ℕ → Bool = λ b. eqb b separator in
    let split = cond_some (ltb (position_or_len p text) (length text)) (position_or_len p text) place found in
    let within = ltb-true _ _ split.0 in
    rw split.1 at within

-- where no place was found, the text is as long as its front without separators
at_least : (n m : ℕ) → cond (ltb n m) (Some n) None ≡ None → m ≤ n
at_least n m h = grind (arith, nat_tests)

-- a text with no separator is one word
pub words_left-none : (separator : ℕ) (text : List ℕ) → position (λ b. eqb b separator) text ≡ None →
    words_left separator false text ≡ text ∷ words_left separator true text
unfolding words_left
words_left-none separator text found =
    let p : ℕ → Bool = λ b. eqb b separator in
    let whole = at_least (position_or_len p text) (length text) found in
    slice_split_none p text (λ k d h. fails_before_first p text k d (omega arith))

-- a word without separators is the first of a text that goes on behind its separator
pub words_of-next : (separator : ℕ) (word rest : List ℕ) → has_byte separator word ≡ false → words_of separator (word ++ separator ∷ rest) ≡ word ∷ words_of separator rest
words_of-next separator [] rest h = slice_split-cons_yes (λ b. eqb b separator) separator rest (eq-eqb separator separator refl)
words_of-next separator (x ∷ word) rest h =
    let parts = or_parts (eqb x separator) (has_byte separator word) h in
    slice_split-cons_no (λ b. eqb b separator) x (word ++ separator ∷ rest) parts.0 ∙ ap (onto_first x) (words_of-next separator word rest parts.1)

-- and of a text that ends
pub words_of-last : (separator : ℕ) (word : List ℕ) → has_byte separator word ≡ false → words_of separator word ≡ word ∷ []
words_of-last separator [] h = refl
words_of-last separator (x ∷ word) h =
    let parts = or_parts (eqb x separator) (has_byte separator word) h in
    slice_split-cons_no (λ b. eqb b separator) x word parts.0 ∙ ap (onto_first x) (words_of-last separator word parts.1)

-- words without separators are those of the text that joins them
pub words_of-joined : (separator : ℕ) (word : List ℕ) (words : List (List ℕ)) → AllByRecursion (λ w. has_byte separator w ≡ false) (word ∷ words) →
    words_of separator (join_with_byte separator (word ∷ words)) ≡ word ∷ words
words_of-joined separator word [] h = words_of-last separator word h.0
words_of-joined separator word (next ∷ words) h =
    words_of-next separator word (join_with_byte separator (next ∷ words)) h.0 ∙ ap (λ ws. word ∷ ws) (words_of-joined separator next words h.1)

-- words joined are the first, and the others with a separator before each
pub joined-parted : (separator : ℕ) (word : List ℕ) (words : List (List ℕ)) → join_with_byte separator (word ∷ words) ≡ word ++ parted separator words
joined-parted separator word [] = sym (append-nil word)
joined-parted separator word (next ∷ words) = ap (λ text. word ++ separator ∷ text) (joined-parted separator next words)

pub parted-append : (separator : ℕ) (front back : List (List ℕ)) → parted separator (front ++ back) ≡ parted separator front ++ parted separator back
parted-append separator [] back = refl
parted-append separator (word ∷ front) back =
    ap (λ text. separator ∷ word ++ text) (parted-append separator front back)
    ∙ sym (append_assoc (separator ∷ word) (parted separator front) (parted separator back))

pub has_byte-append : (byte : ℕ) (front back : List ℕ) → has_byte byte front ≡ false → has_byte byte back ≡ false → has_byte byte (front ++ back) ≡ false
has_byte-append byte [] back h more = more
has_byte-append byte (x ∷ front) back h more =
    let parts = or_parts (eqb x byte) (has_byte byte front) h in
    ap (λ b. b || has_byte byte (front ++ back)) parts.0 ∙ has_byte-append byte front back parts.1 more

-- a byte that is no separator and in no word is not in the text that joins the words
pub joined-clean : (separator byte : ℕ) (words : List (List ℕ)) → eqb separator byte ≡ false → AllByRecursion (λ w. has_byte byte w ≡ false) words →
    has_byte byte (join_with_byte separator words) ≡ false
joined-clean separator byte [] other h = refl
joined-clean separator byte (word ∷ []) other h = h.0
joined-clean separator byte (word ∷ next ∷ words) other h =
    has_byte-append byte word (separator ∷ join_with_byte separator (next ∷ words)) h.0
    (ap (λ b. b || has_byte byte (join_with_byte separator (next ∷ words))) other ∙ joined-clean separator byte (next ∷ words) other h.1)
