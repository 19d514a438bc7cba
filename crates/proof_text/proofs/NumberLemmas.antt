-- The number that digits stand for, digit by digit.
use Rattle.std.proofs.Common.{◌≡◌, ℕ, ◌+◌, ◌-◌, ◌*◌, ◌^◌, ◌<◌, ◌≤◌, ◌⊎◌, zero, suc, inl, inr, Bool, true, false, ◌&&◌, ◌||◌, not, cond, eqb, ltb, leb, decimal, List, [], ◌∷◌, length, get_or, drop, Option, Some, None, option_and_then, refl, sym, ap, ◌∙◌, arith}
use Rattle.std.specs.Char.{is_ascii_digit, digit_value}
use Rattle.std.specs.Str.{all_ascii_digits}
use Rattle.std.specs.Str.Parse.{digits_value_after, digits_value}
use Rattle.std.proofs.lemmas.Bool.{and_from, and_parts}
use Rattle.std.proofs.lemmas.Fmt.{decimal_is_IsNumeral, decimal_digit, first_decimal, decimal-digits_value}
use Rattle.std.proofs.lemmas.Option.{cond_some}
use Rattle.std.proofs.lemmas.Str.Parse.{IsNumeralModel, numerals_by_value, tells_all_ascii_digits}
use Rattle.std.proofs.lemmas.List.{at_drop_more, at_drop_all}
use Rattle.std.proofs.lemmas.Bool.Decides.{nat_tests}
use Rattle.proof_text.specs.Numbers.{has_leading_zero, is_number, number_in, digits_in, digit_after}
use Rattle.proof_text.specs.Laws.{has_byte}

-- the number that a number and further digits give, if it is below 2 ^ 64
unfoldable pub continued : ℕ → List ℕ → Option ℕ
continued n digits = cond (all_ascii_digits digits && ltb (digits_value_after 10 n digits) (2 ^ 64)) (Some (digits_value_after 10 n digits)) None

pub digits_in_is : (word : List ℕ) → digits_in word ≡ continued 0 word
unfolding digits_in continued
digits_in_is word = refl

continued_end : (n : ℕ) → n < 2 ^ 64 → continued n [] ≡ Some n
unfolding continued
continued_end n h = grind (arith, nat_tests)

digit_value-digit : (c : ℕ) → is_ascii_digit c ≡ true → digit_value c ≡ c - 48
digit_value-digit c h = grind (arith, nat_tests)

continued-other : (n c : ℕ) (digits : List ℕ) → is_ascii_digit c ≡ false → continued n (c ∷ digits) ≡ None
unfolding continued
continued-other n c digits h = ap (λ b. cond (b && all_ascii_digits digits && ltb (digits_value_after 10 (n * 10 + digit_value c) digits) (2 ^ 64)) (Some (digits_value_after 10 (n * 10 + digit_value c) digits)) None) h

continued-digit : (n c : ℕ) (digits : List ℕ) → is_ascii_digit c ≡ true → continued n (c ∷ digits) ≡ continued (n * 10 + (c - 48)) digits
unfolding continued
continued-digit n c digits h =
    ap (λ b. cond (b && all_ascii_digits digits && ltb (digits_value_after 10 (n * 10 + digit_value c) digits) (2 ^ 64)) (Some (digits_value_after 10 (n * 10 + digit_value c) digits)) None) h
    ∙ ap (λ d. cond (all_ascii_digits digits && ltb (digits_value_after 10 (n * 10 + d) digits) (2 ^ 64)) (Some (digits_value_after 10 (n * 10 + d) digits)) None) (digit_value-digit c h)

-- further digits make no number smaller
digits_value_after-≥ : (n : ℕ) (digits : List ℕ) → n ≤ digits_value_after 10 n digits
digits_value_after-≥ n [] = omega arith
digits_value_after-≥ n (c ∷ cs) = omega (arith, digits_value_after-≥ (n * 10 + digit_value c) cs)

none_at_false : (b : Bool) (n : ℕ) → 2 ^ 64 ≤ n → cond (b && ltb n (2 ^ 64)) (Some n) None ≡ None
none_at_false false n h = refl
none_at_false true n h = grind (arith, nat_tests)

continued-large : (n : ℕ) (digits : List ℕ) → 2 ^ 64 ≤ n → continued n digits ≡ None
unfolding continued
continued-large n digits h =
    none_at_false (all_ascii_digits digits) (digits_value_after 10 n digits) (omega (arith, digits_value_after-≥ n digits))

small_or_not : (b : Bool) (n : ℕ) (digits : List ℕ) → ltb n (2 ^ 64) ≡ b →
    continued n digits ≡ option_and_then (λ m. continued m digits) (cond b (Some n) None)
small_or_not true n digits h = refl
small_or_not false n digits h = continued-large n digits (grind (arith, nat_tests))

step_cases : (b : Bool) (n c : ℕ) (digits : List ℕ) → is_ascii_digit c ≡ b →
    continued n (c ∷ digits) ≡ option_and_then (λ m. continued m digits) (cond (b && ltb (n * 10 + (c - 48)) (2 ^ 64)) (Some (n * 10 + (c - 48))) None)
step_cases false n c digits h = continued-other n c digits h
step_cases true n c digits h = continued-digit n c digits h ∙ small_or_not (ltb (n * 10 + (c - 48)) (2 ^ 64)) (n * 10 + (c - 48)) digits refl

-- a digit more, and then the others
pub continued_step : (n c : ℕ) (digits : List ℕ) → continued n (c ∷ digits) ≡ option_and_then (λ m. continued m digits) (digit_after n c)
unfolding digit_after
continued_step n c digits = step_cases (is_ascii_digit c) n c digits refl

-- a digit that can't be added, and one that can, at a place
pub continued_none : (n i : ℕ) (digits : List ℕ) → i < length digits → digit_after n (get_or digits i 0) ≡ None → continued n (drop i digits) ≡ None
continued_none n i digits h e =
    at_drop_more (continued n) digits i 0 h ∙ continued_step n (get_or digits i 0) (drop (i + 1) digits)
    ∙ ap (option_and_then (λ m. continued m (drop (i + 1) digits))) e

pub continued_some : (n m i : ℕ) (digits : List ℕ) → i < length digits → digit_after n (get_or digits i 0) ≡ Some m →
    continued n (drop i digits) ≡ continued m (drop (i + 1) digits)
continued_some n m i digits h e =
    at_drop_more (continued n) digits i 0 h ∙ continued_step n (get_or digits i 0) (drop (i + 1) digits)
    ∙ ap (option_and_then (λ m. continued m (drop (i + 1) digits))) e

-- no digit is left
pub continued_all : (n i : ℕ) (digits : List ℕ) → length digits ≤ i → n < 2 ^ 64 → continued n (drop i digits) ≡ Some n
continued_all n i digits h small = at_drop_all (continued n) digits i h ∙ continued_end n small

small_when_some : (b : Bool) (x m : ℕ) → cond (b && ltb x (2 ^ 64)) (Some x) None ≡ Some m → m < 2 ^ 64
small_when_some false x m e = absurd (cc)
small_when_some true x m e = grind (arith, nat_tests)

pub digit_after-small : (n c m : ℕ) → digit_after n c ≡ Some m → m < 2 ^ 64
unfolding digit_after
digit_after-small n c m e = small_when_some (is_ascii_digit c) (n * 10 + (c - 48)) m e

-- digits by their test, and the number that they stand for
digits_own : IsNumeralModel (λ ds. all_ascii_digits ds ≡ true) (digits_value 10)
digits_own = numerals_by_value (λ ds. all_ascii_digits ds ≡ true) tells_all_ascii_digits

pub decimal-digits : (n : ℕ) → n < 2 ^ 64 → all_ascii_digits (decimal n) ≡ true
decimal-digits n h = IsNumeralModel.from digits_own (decimal n) (decimal_is_IsNumeral n h).0.1

pub decimal-nonempty : (n : ℕ) → n < 2 ^ 64 → 0 < length (decimal n)
decimal-nonempty n h = (decimal_is_IsNumeral n h).0.0

no_zero_first : (word : List ℕ) → 48 < get_or word 0 0 → has_leading_zero word ≡ false
no_zero_first [] h = refl
no_zero_first (first ∷ []) h = refl
no_zero_first (first ∷ second ∷ others) h = grind (arith, nat_tests)

no_zero : (n : ℕ) → n < 2 ^ 64 → (n ≡ 0) ⊎ (0 < n) → has_leading_zero (decimal n) ≡ false
no_zero n h (inl e) = ap (λ m. has_leading_zero (decimal m)) e ∙ ap has_leading_zero (decimal_digit 0 (omega arith))
no_zero n h (inr more) = no_zero_first (decimal n) (first_decimal n more h)

zero_or_more : (n : ℕ) → (n ≡ 0) ⊎ (0 < n)
zero_or_more zero = inl refl
zero_or_more (suc n) = inr (omega arith)

not_true : (b : Bool) → not b ≡ true → b ≡ false
not_true true h = absurd (cc)
not_true false h = refl

-- the number that a word is, from what is known of the word
number_in-at : (low high n : ℕ) (word : List ℕ) → 0 < length word → has_leading_zero word ≡ false → all_ascii_digits word ≡ true → digits_value 10 word ≡ n →
    low ≤ n → n ≤ high → number_in low high word ≡ Some n
unfolding number_in
number_in-at low high n word some front digits value above below =
    let one : not (eqb (length word) 0) ≡ true = grind (arith, nat_tests) in
    let two : not (has_leading_zero word) ≡ true = ap not front in
    let three : leb low (digits_value 10 word) ≡ true = grind (arith, nat_tests) in
    let four : leb (digits_value 10 word) high ≡ true = grind (arith, nat_tests) in
    ap (λ b. cond b (Some (digits_value 10 word)) None) (and_from _ _ (and_from _ _ (and_from _ _ (and_from _ _ one two) digits) three) four) ∙ ap Some value

-- a number is read back from its digits
pub number_in-decimal : (low high n : ℕ) → n < 2 ^ 64 → low ≤ n → n ≤ high → number_in low high (decimal n) ≡ Some n
number_in-decimal low high n h above below =
    number_in-at low high n (decimal n) (decimal-nonempty n h) (no_zero n h (zero_or_more n)) (decimal-digits n h) (decimal_is_IsNumeral n h).1 above below

one_zero : (word : List ℕ) → 0 < length word → has_leading_zero word ≡ false → get_or word 0 0 ≡ 48 → length word ≡ 1
one_zero [] some front first = absurd (omega arith)
one_zero (a ∷ []) some front first = refl
one_zero (a ∷ b ∷ others) some front first = grind (arith, nat_tests)

-- what a word is that is a number
pub record Spells (low high n : ℕ) (word : List ℕ) : Type 0 where
  pub above : low ≤ n
  pub below : n ≤ high
  pub text : word ≡ decimal n

pub number_in-spells : (low high n : ℕ) (word : List ℕ) → high < 2 ^ 64 → number_in low high word ≡ Some n → Spells low high n word
unfolding number_in
number_in-spells low high n word small h =
    let value = digits_value 10 word in
    let split = cond_some (is_number word && leb low value && leb value high) value n h in
    let ends = and_parts (is_number word && leb low value) (leb value high) split.0 in
    let front = and_parts (is_number word) (leb low value) ends.0 in
    let parts = and_parts (not (eqb (length word) 0) && not (has_leading_zero word)) (all_ascii_digits word) front.0 in
    let marks = and_parts (not (eqb (length word) 0)) (not (has_leading_zero word)) parts.0 in
    let some : 0 < length word = grind (arith, nat_tests, marks.0) in
    let lead : has_leading_zero word ≡ false = not_true (has_leading_zero word) marks.1 in
    let above : low ≤ value = grind (arith, nat_tests, front.1) in
    let below : value ≤ high = grind (arith, nat_tests, ends.1) in
    let same : value ≡ n = split.1 in
    record {
      above = omega arith;
      below = omega arith;
      text = sym (decimal-digits_value digits_own word parts.1 some (one_zero word some lead) (omega arith)) ∙ ap decimal same;
    }

other_byte : (byte c : ℕ) → byte < 48 → is_ascii_digit c ≡ true → eqb c byte ≡ false
other_byte byte c h digit = grind (arith, nat_tests)

-- no byte below `0` is a digit
no_byte : (byte : ℕ) (word : List ℕ) → byte < 48 → all_ascii_digits word ≡ true → has_byte byte word ≡ false
no_byte byte [] h digits = refl
no_byte byte (c ∷ word) h digits =
    let parts = and_parts (is_ascii_digit c) (all_ascii_digits word) digits in
    let other : eqb c byte ≡ false = other_byte byte c h parts.0 in
    ap (λ b. b || has_byte byte word) other ∙ no_byte byte word h parts.1

pub decimal-no_byte : (n byte : ℕ) → n < 2 ^ 64 → byte < 48 → has_byte byte (decimal n) ≡ false
decimal-no_byte n byte h low = no_byte byte (decimal n) low (decimal-digits n h)
