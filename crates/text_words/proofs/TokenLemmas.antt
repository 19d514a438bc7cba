-- The first token of a line.
use Rattle.std.proofs.Common.{◌≡◌, ◌<◌, ◌≤◌, ℕ, suc, Bool, true, false, not, List, [], ◌∷◌, ◌++◌, length, take, drop, refl, sym, ap, ◌∙◌, arith, append_assoc}
use Rattle.std.proofs.lemmas.List.{append-nil}
use Rattle.std.specs.List.{position_or_len}
use Rattle.std.proofs.lemmas.List.Sums.{prefix_len-le-length}
use Rattle.text_words.specs.Tokens.{Bracket, Word, ended, is_blank, is_bracket, tokens_after}
use Rattle.text_words.specs.Views.{ends_word, is_no_blank, StartsToken}

-- a word is cut where it ends
pub word_cut : (word line : List ℕ) → tokens_after word line ≡ ended (word ++ take (position_or_len ends_word line) line) ++ tokens_after [] (drop (position_or_len ends_word line) line)
word_cut word [] = sym (append-nil (ended (word ++ [])) ∙ ap ended (append-nil word))
word_cut word (b ∷ bs) = by (word_cut (word ++ b ∷ []) bs) (is_blank b) (is_bracket b) refl refl
  where
    by : tokens_after (word ++ b ∷ []) bs ≡ ended ((word ++ b ∷ []) ++ take (position_or_len ends_word bs) bs) ++ tokens_after [] (drop (position_or_len ends_word bs) bs)
        → (p q : Bool) → is_blank b ≡ p → is_bracket b ≡ q
        → tokens_after word (b ∷ bs) ≡ ended (word ++ take (position_or_len ends_word (b ∷ bs)) (b ∷ bs)) ++ tokens_after [] (drop (position_or_len ends_word (b ∷ bs)) (b ∷ bs))
    by rest true q e f = rw (e, e, append-nil) refl
    by rest false true e f = rw (e, f, e, f, append-nil) refl
    by rest false false e f =
        let next : tokens_after word (b ∷ bs) ≡ tokens_after (word ++ b ∷ []) bs = rw (e, f) refl in
        let n : position_or_len ends_word (b ∷ bs) ≡ suc (position_or_len ends_word bs) = rw (e, f) (omega arith) in
        next ∙ rest ∙ rw (n, append_assoc) refl

pub word_first : (b : ℕ) (bs : List ℕ) → is_blank b ≡ false → is_bracket b ≡ false
    → tokens_after [] (b ∷ bs) ≡ Word (take (position_or_len ends_word (b ∷ bs)) (b ∷ bs)) ∷ tokens_after [] (drop (position_or_len ends_word (b ∷ bs)) (b ∷ bs))
word_first b bs e f =
    let n : position_or_len ends_word (b ∷ bs) ≡ suc (position_or_len ends_word bs) = rw (e, f) (omega arith) in
    word_cut [] (b ∷ bs) ∙ rw n refl

pub word_some : (b : ℕ) (bs : List ℕ) → is_blank b ≡ false → is_bracket b ≡ false → 0 < position_or_len ends_word (b ∷ bs)
word_some b bs e f = rw (e, f) (omega arith)

pub bracket_first : (b : ℕ) (bs : List ℕ) → is_blank b ≡ false → is_bracket b ≡ true → tokens_after [] (b ∷ bs) ≡ Bracket b ∷ tokens_after [] bs
bracket_first b bs e f = rw (e, f) refl

-- blanks before a token count for nothing
pub blanks_first : (line : List ℕ) → tokens_after [] (drop (position_or_len is_no_blank line) line) ≡ tokens_after [] line
blanks_first [] = refl
blanks_first (b ∷ bs) = by (blanks_first bs) (is_blank b) refl
  where
    by : tokens_after [] (drop (position_or_len is_no_blank bs) bs) ≡ tokens_after [] bs → (p : Bool) → is_blank b ≡ p → tokens_after [] (drop (position_or_len is_no_blank (b ∷ bs)) (b ∷ bs)) ≡ tokens_after [] (b ∷ bs)
    by rest true e =
        let n : position_or_len is_no_blank (b ∷ bs) ≡ suc (position_or_len is_no_blank bs) = rw e (omega arith) in
        let here : tokens_after [] (b ∷ bs) ≡ tokens_after [] bs = rw e refl in
        rw n rest ∙ sym here
    by rest false e =
        let n : position_or_len is_no_blank (b ∷ bs) ≡ 0 = rw e refl in
        rw n refl

pub blanks_end : (line : List ℕ) → StartsToken (drop (position_or_len is_no_blank line) line)
blanks_end [] = tt
blanks_end (b ∷ bs) = by (blanks_end bs) (is_blank b) refl
  where
    by : StartsToken (drop (position_or_len is_no_blank bs) bs) → (p : Bool) → is_blank b ≡ p → StartsToken (drop (position_or_len is_no_blank (b ∷ bs)) (b ∷ bs))
    by rest true e =
        let n : position_or_len is_no_blank (b ∷ bs) ≡ suc (position_or_len is_no_blank bs) = rw e (omega arith) in
        rw n rest
    by rest false e =
        let n : position_or_len is_no_blank (b ∷ bs) ≡ 0 = rw e refl in
        rw n e

pub blanks_within : (line : List ℕ) → position_or_len is_no_blank line ≤ length line
blanks_within line = prefix_len-le-length (λ b. not (is_no_blank b)) line

pub word_within : (line : List ℕ) → position_or_len ends_word line ≤ length line
word_within line = prefix_len-le-length (λ b. not (ends_word b)) line

pub ruleset token_rules = (word_first, word_some, bracket_first, blanks_first, blanks_end, blanks_within, word_within)
