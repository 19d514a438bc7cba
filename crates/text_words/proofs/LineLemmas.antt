-- The first line of a text, and a line without its end and its comment.
use Rattle.std.proofs.Common.{◌≡◌, ◌+◌, ◌-◌, ◌<◌, ◌≤◌, ◌==◌, ℕ, Bool, true, false, List, [], ◌∷◌, ◌++◌, length, take, drop, refl, ap, ◌∙◌, arith}
use Rattle.std.specs.List.{before_first, after_first, position_or_len, slice_split, onto_first}
use Rattle.std.proofs.lemmas.List.Splits.{slice_split_first}
use Rattle.std.proofs.lemmas.List.{take_all, take_rest}
use Rattle.text_words.specs.Tokens.{is_line_end, is_hash, lines_of, without_return}

-- where no element passes the test, there is one part
pub split_whole : {X : Type 0} (p : X → Bool) (xs : List X) → length xs ≤ position_or_len p xs → slice_split p xs ≡ xs ∷ []
split_whole p [] h = refl
split_whole p (x ∷ xs) h = by (split_whole p xs) (p x) refl h
  where
    by : (length xs ≤ position_or_len p xs → slice_split p xs ≡ xs ∷ []) → (b : Bool) → p x ≡ b → length (x ∷ xs) ≤ position_or_len p (x ∷ xs)
        → slice_split p (x ∷ xs) ≡ (x ∷ xs) ∷ []
    by rest true e g = let z : position_or_len p (x ∷ xs) ≡ 0 = rw e in absurd (omega arith)
    by rest false e g =
        let more : position_or_len p (x ∷ xs) ≡ 1 + position_or_len p xs = rw e in
        let rest : slice_split p xs ≡ xs ∷ [] = rest (omega arith) in
        let here : slice_split p (x ∷ xs) ≡ onto_first x (slice_split p xs) = rw e in
        here ∙ ap (onto_first x) rest

pub lines_first : (text : List ℕ) → position_or_len is_line_end text < length text → lines_of text ≡ before_first is_line_end text ∷ lines_of (after_first is_line_end text)
lines_first text h = slice_split_first is_line_end text 0 h

pub lines_last : (text : List ℕ) → length text ≤ position_or_len is_line_end text → lines_of text ≡ text ∷ []
lines_last text h = split_whole is_line_end text h

pub return_last : (line : List ℕ) → without_return (line ++ 13 ∷ []) ≡ line
return_last [] = refl
return_last (b ∷ []) = refl
return_last (b ∷ c ∷ bs) = ap (λ rest. b ∷ rest) (return_last (c ∷ bs))

pub no_return : (line : List ℕ) (b : ℕ) → (b == 13) ≡ false → without_return (line ++ b ∷ []) ≡ line ++ b ∷ []
no_return [] b h = rw h
no_return (c ∷ []) b h = rw h
no_return (c ∷ d ∷ bs) b h = ap (λ rest. c ∷ rest) (no_return (d ∷ bs) b h)

pub no_comment : (line : List ℕ) → length line ≤ position_or_len is_hash line → before_first is_hash line ≡ line
no_comment line h = take_all (position_or_len is_hash line) line h

pub ruleset line_rules = (lines_first, lines_last, return_last, no_return, no_comment)

-- what is cut out of a list from a place on
pub rest_from : (bytes : List ℕ) (at : ℕ) → take (length bytes - at) (drop at bytes) ≡ drop at bytes
rest_from bytes at = take_rest bytes at

pub ruleset cut_rules = (rest_from)
