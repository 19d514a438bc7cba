-- The first word of a line between blanks.
use Rattle.std.proofs.Common.{◌≡◌, ◌<◌, ◌≤◌, ℕ, suc, Bool, true, false, not, List, [], ◌∷◌, length, take, drop, refl, sym, ap, ◌∙◌, arith}
use Rattle.std.specs.Prelude.{nat_lt}
use Rattle.std.proofs.Math.Dec.{ltb}
use Rattle.std.specs.List.{filter, position_or_len, slice_split, onto_first}
use Rattle.std.proofs.lemmas.Bool.{lt-ltb}
use Rattle.std.proofs.lemmas.List.Sums.{prefix_len-le-length}
use Rattle.text_words.specs.Tokens.{is_blank, words_in}
use Rattle.text_words.specs.Views.{is_no_blank}

-- the first part ends at the first element that passes the test
pub first_part : {X : Type 0} (p : X → Bool) (xs : List X)
    → slice_split p xs ≡ take (position_or_len p xs) xs ∷ drop 1 (slice_split p (drop (position_or_len p xs) xs))
first_part p [] = refl
first_part p (x ∷ xs) = by (first_part p xs) (p x) refl
  where
    by : slice_split p xs ≡ take (position_or_len p xs) xs ∷ drop 1 (slice_split p (drop (position_or_len p xs) xs)) → (b : Bool) → p x ≡ b
        → slice_split p (x ∷ xs) ≡ take (position_or_len p (x ∷ xs)) (x ∷ xs) ∷ drop 1 (slice_split p (drop (position_or_len p (x ∷ xs)) (x ∷ xs)))
    by rest true e =
        let n : position_or_len p (x ∷ xs) ≡ 0 = rw e refl in
        rw (n, e) refl
    by rest false e =
        let n : position_or_len p (x ∷ xs) ≡ suc (position_or_len p xs) = rw e (omega arith) in
        let here : slice_split p (x ∷ xs) ≡ onto_first x (slice_split p xs) = rw e refl in
        here ∙ ap (onto_first x) rest ∙ rw n refl

-- nothing stands before that element
pub no_part : {X : Type 0} (p : X → Bool) (xs : List X)
    → slice_split p (drop (position_or_len p xs) xs) ≡ [] ∷ drop 1 (slice_split p (drop (position_or_len p xs) xs))
no_part p [] = refl
no_part p (x ∷ xs) = by (no_part p xs) (p x) refl
  where
    by : slice_split p (drop (position_or_len p xs) xs) ≡ [] ∷ drop 1 (slice_split p (drop (position_or_len p xs) xs)) → (b : Bool) → p x ≡ b
        → slice_split p (drop (position_or_len p (x ∷ xs)) (x ∷ xs)) ≡ [] ∷ drop 1 (slice_split p (drop (position_or_len p (x ∷ xs)) (x ∷ xs)))
    by rest true e =
        let n : position_or_len p (x ∷ xs) ≡ 0 = rw e refl in
        rw (n, e) refl
    by rest false e =
        let n : position_or_len p (x ∷ xs) ≡ suc (position_or_len p xs) = rw e (omega arith) in
        rw n rest

pub run_some : (b : ℕ) (bs : List ℕ) → is_blank b ≡ false → 0 < position_or_len is_blank (b ∷ bs)
run_some b bs e = rw e (omega arith)

pub run_within : (line : List ℕ) → position_or_len is_blank line ≤ length line
run_within line = prefix_len-le-length (λ b. not (is_blank b)) line

abbrev some_of : List (List ℕ) → List (List ℕ)
some_of words = filter (λ word. nat_lt 0 (length word)) words

-- a word that isn't empty is kept
some_kept : (k m b : ℕ) (bs : List ℕ) (words : List (List ℕ)) → k ≡ suc m → some_of (take k (b ∷ bs) ∷ words) ≡ take k (b ∷ bs) ∷ some_of words
some_kept k m b bs words e = let some : ltb 0 (length (b ∷ take m bs)) ≡ true = lt-ltb 0 (length (b ∷ take m bs)) (omega arith) in rw (e, some) refl

-- a line that begins with no blank begins with its first word
pub run_first : (b : ℕ) (bs : List ℕ) → is_blank b ≡ false
    → words_in (b ∷ bs) ≡ take (position_or_len is_blank (b ∷ bs)) (b ∷ bs) ∷ words_in (drop (position_or_len is_blank (b ∷ bs)) (b ∷ bs))
run_first b bs e = by (position_or_len is_blank (b ∷ bs)) (rw e (omega arith)) (first_part is_blank (b ∷ bs)) (no_part is_blank (b ∷ bs))
  where
    by : (n : ℕ) → n ≡ suc (position_or_len is_blank bs)
        → slice_split is_blank (b ∷ bs) ≡ take n (b ∷ bs) ∷ drop 1 (slice_split is_blank (drop n (b ∷ bs)))
        → slice_split is_blank (drop n (b ∷ bs)) ≡ [] ∷ drop 1 (slice_split is_blank (drop n (b ∷ bs)))
        → words_in (b ∷ bs) ≡ take n (b ∷ bs) ∷ words_in (drop n (b ∷ bs))
    by n m first behind =
        ap some_of first
        ∙ some_kept n (position_or_len is_blank bs) b bs (drop 1 (slice_split is_blank (drop n (b ∷ bs)))) m
        ∙ ap (λ words. take n (b ∷ bs) ∷ words) (sym (ap some_of behind))

-- blanks before a word count for nothing
pub blanks_no_words : (line : List ℕ) → words_in (drop (position_or_len is_no_blank line) line) ≡ words_in line
blanks_no_words [] = refl
blanks_no_words (b ∷ bs) = by (blanks_no_words bs) (is_blank b) refl
  where
    by : words_in (drop (position_or_len is_no_blank bs) bs) ≡ words_in bs → (p : Bool) → is_blank b ≡ p → words_in (drop (position_or_len is_no_blank (b ∷ bs)) (b ∷ bs)) ≡ words_in (b ∷ bs)
    by rest true e =
        let n : position_or_len is_no_blank (b ∷ bs) ≡ suc (position_or_len is_no_blank bs) = rw e (omega arith) in
        let here : words_in (b ∷ bs) ≡ words_in bs = rw e refl in
        rw n rest ∙ sym here
    by rest false e =
        let n : position_or_len is_no_blank (b ∷ bs) ≡ 0 = rw e refl in
        rw n refl

pub ruleset blank_rules = (run_some, run_within, run_first, blanks_no_words)
