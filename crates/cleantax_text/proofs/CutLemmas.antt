-- Where a text of UTF-8 is cut at ASCII bytes, each part is UTF-8.
use Rattle.std.proofs.Common.{◌≡◌, ◌⊎◌, ◌+◌, ◌<◌, ◌≤◌, ◌==◌, ℕ, zero, suc, Bool, true, false, List, [], ◌∷◌, ◌++◌, length, take, drop, get_or, refl, sym, ap, subst, ◌∙◌, inl, inr, arith, IsUtf8}
use Rattle.std.specs.Prelude.{nat_lt, nat_eq}
use Rattle.std.specs.List.{AllByRecursion, position_or_len, before_first, after_first, starts_with}
use lib.Utf8.{encode}
use Rattle.std.proofs.lemmas.Slice.Eq.{bytes_eq-Decides}
use Rattle.std.specs.Str.{is_utf8}
use Rattle.std.specs.Str.Lossy.{valid_len_up_to, utf8_valid_len}
use Rattle.std.proofs.lemmas.Bool.{cases_Bool, cases_lt, cond-true, cond-false, ltb-false, eqb-true}
use Rattle.std.proofs.lemmas.Str.{IsUtf8-nil, IsUtf8-from_is_utf8, IsUtf8-take, IsUtf8-drop, IsUtf8-past_char, IsCharBoundary-before_ascii, IsCharBoundary-after_ascii}
use Rattle.std.proofs.lemmas.List.{append_assoc, length-append, length_push, get_or_at, take_at, take_all, drop_at, take-append-drop}
use Rattle.std.proofs.lemmas.List.Sums.{split_at_first, passes_at_first}
use Rattle.text_words.specs.Tokens.{is_line_end, is_hash, lines_of, mark, without_mark, without_return, bare}
use Rattle.text_words.proofs.LineLemmas.{lines_first, lines_last}

valid_front : (bs : List ℕ) (m : ℕ) → IsUtf8 (take (valid_len_up_to bs m) bs)
valid_front bs zero = IsUtf8-nil
valid_front bs (suc m) = elim (cases_Bool (is_utf8 (take (suc m) bs))) [
  | inl valid ↦ subst (λ n. IsUtf8 (take n bs)) (sym (cond-true _ _ _ valid)) (IsUtf8-from_is_utf8 _ valid)
  | inr invalid ↦ subst (λ n. IsUtf8 (take n bs)) (sym (cond-false _ _ _ invalid)) (valid_front bs m)
]

-- a text that is valid to its end
pub whole_utf8 : (bs : List ℕ) → nat_lt (utf8_valid_len bs) (length bs) ≡ false → IsUtf8 bs
unfolding utf8_valid_len
whole_utf8 bs e = subst IsUtf8 (take_all (valid_len_up_to bs (length bs)) bs (ltb-false _ _ e)) (valid_front bs (length bs))

pub before_cut : (xs : List ℕ) (b : ℕ) (ys : List ℕ) → b < 128 → IsUtf8 (xs ++ b ∷ ys) → IsUtf8 xs
before_cut xs b ys small u =
    let bs = xs ++ b ∷ ys in
    let at : get_or bs (length xs) 0 ≡ b = get_or_at xs b ys 0 (length xs) refl in
    subst IsUtf8 (take_at xs (b ∷ ys) (length xs) refl)
    (IsUtf8-take bs (length xs) u (IsCharBoundary-before_ascii bs (length xs) (omega (arith, length-append xs (b ∷ ys))) (subst (λ x. x < 128) (sym at) small)))

pub after_cut : (xs : List ℕ) (b : ℕ) (ys : List ℕ) → b < 128 → IsUtf8 (xs ++ b ∷ ys) → IsUtf8 ys
after_cut xs b ys small u =
    let bs = xs ++ b ∷ ys in
    let at : get_or bs (length xs) 0 ≡ b = get_or_at xs b ys 0 (length xs) refl in
    let rest : drop (length xs + 1) bs ≡ ys = ap (drop (length xs + 1)) (sym (append_assoc xs (b ∷ []) ys)) ∙ drop_at (xs ++ b ∷ []) ys (length xs + 1) (length_push xs b) in
    subst IsUtf8 rest
    (IsUtf8-drop bs (length xs + 1) u (IsCharBoundary-after_ascii bs (length xs) u (omega (arith, length-append xs (b ∷ ys))) (subst (λ x. x < 128) (sym at) small)))

-- a text cut at the first byte that passes a test of one ASCII byte
module _ (p : ℕ → Bool) (low : (b : ℕ) → p b ≡ true → b < 128) where
  pub before_first_utf8 : (xs : List ℕ) → IsUtf8 xs → IsUtf8 (before_first p xs)
  before_first_utf8 xs u = elim (cases_lt (position_or_len p xs) (length xs)) [
    | inl lt ↦
        let b = get_or xs (position_or_len p xs) 0 in
        before_cut (before_first p xs) b (after_first p xs) (low b (passes_at_first p xs 0 lt)) (subst IsUtf8 (split_at_first p xs 0 lt) u)
    | inr le ↦ subst IsUtf8 (sym (take_all (position_or_len p xs) xs le)) u
  ]

  pub after_first_utf8 : (xs : List ℕ) → position_or_len p xs < length xs → IsUtf8 xs → IsUtf8 (after_first p xs)
  after_first_utf8 xs lt u =
      let b = get_or xs (position_or_len p xs) 0 in
      after_cut (before_first p xs) b (after_first p xs) (low b (passes_at_first p xs 0 lt)) (subst IsUtf8 (split_at_first p xs 0 lt) u)

line_end_low : (b : ℕ) → is_line_end b ≡ true → b < 128
line_end_low b e = let is = eqb-true b 10 e in omega arith

hash_low : (b : ℕ) → is_hash b ≡ true → b < 128
hash_low b e = let is = eqb-true b 35 e in omega arith

lines_within : (n : ℕ) (text : List ℕ) → length text ≤ n → IsUtf8 text → AllByRecursion IsUtf8 (lines_of text)
lines_within zero [] le u = (u, tt)
lines_within zero (b ∷ bs) le u = absurd (omega arith)
lines_within (suc n) text le u = elim (cases_lt (position_or_len is_line_end text) (length text)) [
  | inl lt ↦
      let shorter : length (after_first is_line_end text) ≤ n =
      (let e = ap length (split_at_first is_line_end text 0 lt) in
      omega (arith, e, length-append (before_first is_line_end text) (get_or text (position_or_len is_line_end text) 0 ∷ after_first is_line_end text))) in
      subst (AllByRecursion IsUtf8) (sym (lines_first text lt))
      (before_first_utf8 is_line_end line_end_low text u, lines_within n (after_first is_line_end text) shorter (after_first_utf8 is_line_end line_end_low text lt u))
  | inr past ↦ subst (AllByRecursion IsUtf8) (sym (lines_last text past)) (u, tt)
]

-- the lines of a text
pub lines_utf8 : (text : List ℕ) → IsUtf8 text → AllByRecursion IsUtf8 (lines_of text)
lines_utf8 text u = lines_within (length text) text (omega arith) u

return_cases : (line : List ℕ) → (without_return line ≡ line) ⊎ (without_return line ++ 13 ∷ [] ≡ line)
return_cases [] = inl refl
return_cases (b ∷ []) = by (b == 13) refl
  where
    by : (t : Bool) → (b == 13) ≡ t → (without_return (b ∷ []) ≡ b ∷ []) ⊎ (without_return (b ∷ []) ++ 13 ∷ [] ≡ b ∷ [])
    by true e = inr (rw e (ap (λ c. c ∷ []) (sym (eqb-true b 13 e))))
    by false e = inl (rw e refl)
return_cases (b ∷ c ∷ bs) = elim (return_cases (c ∷ bs)) [
  | inl same ↦ inl (ap (λ rest. b ∷ rest) same)
  | inr cut ↦ inr (ap (λ rest. b ∷ rest) cut)
]

-- a line without its return and its comment
pub bare_utf8 : (line : List ℕ) → IsUtf8 line → IsUtf8 (bare line)
bare_utf8 line u = before_first_utf8 is_hash hash_low (without_return line) (elim (return_cases line) [
  | inl same ↦ subst IsUtf8 (sym same) u
  | inr cut ↦ before_cut (without_return line) 13 [] (omega arith) (subst IsUtf8 (sym cut) u)
])

marked : (bs : List ℕ) → starts_with nat_eq bs mark ≡ true → bs ≡ encode 65279 ++ drop 3 bs
unfolding encode
marked bs e = sym (take-append-drop 3 bs) ∙ ap (λ front. front ++ drop 3 bs) (sym ((bytes_eq-Decides mark (take 3 bs)).0 e))

-- a text without the mark before it
pub unmarked_utf8 : (bs : List ℕ) → IsUtf8 bs → IsUtf8 (without_mark bs)
unmarked_utf8 bs u = by (starts_with nat_eq bs mark) refl
  where
    by : (t : Bool) → starts_with nat_eq bs mark ≡ t → IsUtf8 (without_mark bs)
    by true e = rw e (IsUtf8-past_char bs (drop 3 bs) 65279 u (marked bs e))
    by false e = rw e u
