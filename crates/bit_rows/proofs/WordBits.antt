-- Bits of words and of rows of words.
use Rattle.std.proofs.Common.{◌≡◌, ◌≢◌, ℕ, zero, suc, ◌+◌, ◌-◌, ◌*◌, ◌/◌, ◌%◌, ◌^◌, ◌<◌, ◌≤◌, length, Bool, true, false, not, ◌&&◌, ◌||◌, inl, inr, List, [], ◌∷◌, ◌++◌, get_or, refl, sym, ap, ◌∙◌, arith}
use Rattle.std.specs.Prelude.{◌==◌, ◌↔◌, min, max, IsTrue}
use Rattle.std.specs.Int.{bit_at, bit_not, trailing_zeros, w64}
use Rattle.std.specs.Int.RustNames.{bit_or}
use Rattle.std.specs.Int.Bits.{bit_and, or_zero_l}
use Rattle.std.proofs.lemmas.Bool.{cases_Bool, cases_eq, cases_lt, eq-eqb, ne_eqb, true≢false, eqb-true}
use Rattle.std.proofs.Math.Bool.{or-true}
use Rattle.std.proofs.lemmas.Nat.Bits.{bit_at_and, bit_at_or, bit_at_not, bit_at_set_same, bit_at_set_other, bit_at-trailing_zeros, shr_and_one, bit_at-lt, bit_at-zero, same_from_bits_below}
use Rattle.std.proofs.lemmas.List.{get_or_past, get_or_append_left, get_or_push}
use Rattle.std.proofs.lemmas.Nat.{and_le_l}
use Rattle.bit_rows.specs.declared.words.Cells.{Cells}
use Rattle.bit_rows.specs.Rows.{word_bit, has_bit, SomePlace, IsFirst, in_cells, meets_at, neither_cell}

small_and : (x y : ℕ) → x < 2 → y < 2 → (min x y == 1) ≡ ((x == 1) && (y == 1))
small_and zero zero hx hy = refl
small_and zero (suc zero) hx hy = refl
small_and (suc zero) zero hx hy = refl
small_and (suc zero) (suc zero) hx hy = refl
small_and (suc (suc x)) y hx hy = absurd (omega arith)
small_and x (suc (suc y)) hx hy = absurd (omega arith)

small_or : (x y : ℕ) → x < 2 → y < 2 → (max x y == 1) ≡ ((x == 1) || (y == 1))
small_or zero zero hx hy = refl
small_or zero (suc zero) hx hy = refl
small_or (suc zero) zero hx hy = refl
small_or (suc zero) (suc zero) hx hy = refl
small_or (suc (suc x)) y hx hy = absurd (omega arith)
small_or x (suc (suc y)) hx hy = absurd (omega arith)

small_not : (x y : ℕ) → x < 2 → y ≡ 1 - x → (y == 1) ≡ not (x == 1)
small_not zero y hx e = ap (λ z. z == 1) e
small_not (suc zero) y hx e = ap (λ z. z == 1) e
small_not (suc (suc x)) y hx e = absurd (omega arith)

and_off : (b : Bool) → (b && false) ≡ false
and_off true = refl
and_off false = refl

and_on : (b : Bool) → (b && true) ≡ b
and_on true = refl
and_on false = refl

pub or_off : (b : Bool) → (b || false) ≡ b
or_off true = refl
or_off false = refl

pub word_and : (a b i : ℕ) → word_bit (bit_and a b) i ≡ (word_bit a i && word_bit b i)
unfolding word_bit
word_and a b i = ap (λ x. x == 1) (bit_at_and a b i) ∙ small_and (bit_at a i) (bit_at b i) (bit_at-lt a i) (bit_at-lt b i)

pub word_or : (a b i : ℕ) → word_bit (bit_or a b) i ≡ (word_bit a i || word_bit b i)
unfolding word_bit
word_or a b i = ap (λ x. x == 1) (bit_at_or a b i) ∙ small_or (bit_at a i) (bit_at b i) (bit_at-lt a i) (bit_at-lt b i)

pub word_not : (a i : ℕ) → a < 2 ^ 64 → i < 64 → word_bit (bit_not w64 a) i ≡ not (word_bit a i)
unfolding word_bit
word_not a i fits within = small_not (bit_at a i) (bit_at (bit_not w64 a) i) (bit_at-lt a i) (bit_at_not w64 a i fits within)

pub fits_and : (a b : ℕ) → a < 2 ^ 64 → bit_and a b < 2 ^ 64
fits_and a b h = omega (arith, and_le_l a b)

pub word_zero : (i : ℕ) → word_bit 0 i ≡ false
unfolding word_bit
word_zero i = ap (λ x. x == 1) (bit_at-zero i)

-- the bits of a row, word by word
pub has_at : (words : List ℕ) (i j : ℕ) → j < 64 → has_bit words (64 * i + j) ≡ word_bit (get_or words i 0) j
unfolding has_bit
has_at words i j within =
    let place : (64 * i + j) / 64 ≡ i = omega arith in
    let rest : (64 * i + j) % 64 ≡ j = omega arith in
    ap (λ n. word_bit (get_or words n 0) ((64 * i + j) % 64)) place ∙ ap (word_bit (get_or words i 0)) rest

-- past the end of a row there is no bit
pub has_past : (words : List ℕ) (i k : ℕ) → length words ≤ i → 64 * i ≤ k → has_bit words k ≡ false
unfolding has_bit
has_past words i k long past = ap (λ w. word_bit w (k % 64)) (get_or_past words (k / 64) 0 (omega arith)) ∙ word_zero (k % 64)

-- no place below n passes
abbrev pub NoneBelow : (ℕ → Bool) → ℕ → Type 0
NoneBelow test n = (k : ℕ) → k < n → test k ≡ false

-- none of 64 more, where a word of their tests is 0
pub none_more : (test : ℕ → Bool) (i word : ℕ) → NoneBelow test (64 * i) → ((j : ℕ) → j < 64 → test (64 * i + j) ≡ word_bit word j) → word ≡ 0 → NoneBelow test (64 * (i + 1))
none_more test i word below tells none k small = elim (cases_lt k (64 * i)) [
  | inl before ↦ below k before
  | inr later ↦
      let j : ℕ = k - 64 * i in
      let same : k ≡ 64 * i + j = omega arith in
      let within : j < 64 = omega arith in
      ap test same ∙ tells j within ∙ ap (λ w. word_bit w j) none ∙ word_zero j
]

-- some of them, where it is not
zero_bit : (x : ℕ) → x < 2 → (x == 1) ≡ false → x ≡ 0
zero_bit zero h e = refl
zero_bit (suc zero) h e = absurd (true≢false e)
zero_bit (suc (suc x)) h e = absurd (omega arith)

zero_word : (word : ℕ) → word < 2 ^ 64 → ((j : ℕ) → j < 64 → word_bit word j ≡ false) → word ≡ 0
unfolding word_bit
zero_word word fits none =
    same_from_bits_below 64 word 0 fits (omega arith) (λ j h. zero_bit (bit_at word j) (bit_at-lt word j) (none j h) ∙ sym (bit_at-zero j))

pub some_here : (test : ℕ → Bool) (i word : ℕ) → word < 2 ^ 64 → ((j : ℕ) → j < 64 → test (64 * i + j) ≡ word_bit word j) → word ≢ 0 → SomePlace test
some_here test i word fits tells some = find 64 (λ none. some (zero_word word fits (λ j h. sym (tells j h) ∙ none j h)))
  where
    -- a search of the first n places
    find : (n : ℕ) → (((j : ℕ) → j < n → test (64 * i + j) ≡ false) → ⊥) → SomePlace test
    find zero h = absurd (h (λ j small. absurd (omega arith)))
    find (suc n) h = elim (cases_Bool (test (64 * i + n))) [
      | inl found ↦ record { place = 64 * i + n; passes = found }
      | inr missed ↦ find n (λ none. h (λ j small. elim (cases_lt j n) [
        | inl before ↦ none j before
        | inr last ↦ let same : j ≡ n = omega arith in ap (λ m. test (64 * i + m)) same ∙ missed
      ]))
    ]

-- the bits of the four cells, put together
pub cells_bit : (cells : Cells) (left right : Bool) →
    ((((cells.left_only && (left && not right)) || (cells.both && (left && right))) || (cells.right_only && (not left && right))) || (cells.neither && (not left && not right))) ≡
    in_cells cells left right
cells_bit cells true true = rw (and_off cells.left_only, and_on cells.both, and_off cells.right_only, and_off cells.neither, or_off cells.both, or_off cells.both) refl
cells_bit cells true false = rw (and_on cells.left_only, and_off cells.both, and_off cells.right_only, and_off cells.neither, or_off cells.left_only, or_off cells.left_only, or_off cells.left_only) refl
cells_bit cells false true = rw (and_off cells.left_only, and_off cells.both, and_on cells.right_only, and_off cells.neither, or_off cells.right_only) refl
cells_bit cells false false = rw (and_off cells.left_only, and_off cells.both, and_off cells.right_only, and_on cells.neither) refl

-- a word's bits in four cells
pub cells_word : (cells : Cells) (left right a b c d i : ℕ) → left < 2 ^ 64 → right < 2 ^ 64 → i < 64 →
    word_bit a i ≡ (cells.left_only && word_bit (bit_and left (bit_not w64 right)) i) →
    word_bit b i ≡ (cells.both && word_bit (bit_and left right) i) →
    word_bit c i ≡ (cells.right_only && word_bit (bit_and (bit_not w64 left) right) i) →
    word_bit d i ≡ (cells.neither && word_bit (bit_and (bit_not w64 left) (bit_not w64 right)) i) →
    word_bit (bit_or (bit_or (bit_or a b) c) d) i ≡ in_cells cells (word_bit left i) (word_bit right i)
cells_word cells left right a b c d i fits_left fits_right within ea eb ec ed =
    let l = word_bit left i in
    let r = word_bit right i in
    let fa : word_bit a i ≡ (cells.left_only && (l && not r)) = ea ∙ ap (λ x. cells.left_only && x) (word_and left (bit_not w64 right) i ∙ ap (λ x. l && x) (word_not right i fits_right within)) in
    let fb : word_bit b i ≡ (cells.both && (l && r)) = eb ∙ ap (λ x. cells.both && x) (word_and left right i) in
    let fc : word_bit c i ≡ (cells.right_only && (not l && r)) = ec ∙ ap (λ x. cells.right_only && x) (word_and (bit_not w64 left) right i ∙ ap (λ x. x && r) (word_not left i fits_left within)) in
    let fd : word_bit d i ≡ (cells.neither && (not l && not r)) =
    ed ∙ ap (λ x. cells.neither && x) (word_and (bit_not w64 left) (bit_not w64 right) i ∙ ap (λ x. x && word_bit (bit_not w64 right) i) (word_not left i fits_left within) ∙ ap (λ x. not l && x) (word_not right i fits_right within)) in
    word_or (bit_or (bit_or a b) c) d i ∙ ap (λ x. x || word_bit d i) (word_or (bit_or a b) c i ∙ ap (λ x. x || word_bit c i) (word_or a b i)) ∙
    ap (λ x. ((x || word_bit b i) || word_bit c i) || word_bit d i) fa ∙
    ap (λ x. (((cells.left_only && (l && not r)) || x) || word_bit c i) || word_bit d i) fb ∙
    ap (λ x. (((cells.left_only && (l && not r)) || (cells.both && (l && r))) || x) || word_bit d i) fc ∙
    ap (λ x. (((cells.left_only && (l && not r)) || (cells.both && (l && r))) || (cells.right_only && (not l && r))) || x) fd ∙
    cells_bit cells l r

pub meets_word : (one other left right : List ℕ) (cells : Cells) (i word : ℕ) →
    ((j : ℕ) → j < 64 → word_bit word j ≡ in_cells cells (word_bit (get_or left i 0) j) (word_bit (get_or right i 0) j)) →
    (j : ℕ) → j < 64 → meets_at one other left right cells (64 * i + j) ≡ word_bit (bit_and (bit_and (get_or one i 0) (get_or other i 0)) word) j
meets_word one other left right cells i word is j within =
    let test = λ (a b l r : Bool). (a && b) && in_cells cells l r in
    ap (λ a. test a (has_bit other (64 * i + j)) (has_bit left (64 * i + j)) (has_bit right (64 * i + j))) (has_at one i j within) ∙
    ap (λ b. test (word_bit (get_or one i 0) j) b (has_bit left (64 * i + j)) (has_bit right (64 * i + j))) (has_at other i j within) ∙
    ap (λ l. test (word_bit (get_or one i 0) j) (word_bit (get_or other i 0) j) l (has_bit right (64 * i + j))) (has_at left i j within) ∙
    ap (λ r. test (word_bit (get_or one i 0) j) (word_bit (get_or other i 0) j) (word_bit (get_or left i 0) j) r) (has_at right i j within) ∙
    ap (λ x. (word_bit (get_or one i 0) j && word_bit (get_or other i 0) j) && x) (sym (is j within)) ∙
    ap (λ x. x && word_bit word j) (sym (word_and (get_or one i 0) (get_or other i 0) j)) ∙ sym (word_and (bit_and (get_or one i 0) (get_or other i 0)) word j)

-- where none is below the end, there is none
pub meets_none : (one other left right : List ℕ) (cells : Cells) (i : ℕ) → NoneBelow (meets_at one other left right cells) (64 * i) → length one ≤ i → SomePlace (meets_at one other left right cells) → ⊥
meets_none one other left right cells i none long some = elim (cases_lt some.place (64 * i)) [
  | inl before ↦ true≢false (sym some.passes ∙ none some.place before)
  | inr past ↦
      let off : has_bit one some.place ≡ false = has_past one i some.place long past in
      true≢false (sym some.passes ∙ ap (λ a. (a && has_bit other some.place) && in_cells cells (has_bit left some.place) (has_bit right some.place)) off)
]

-- the words of three rows at a place, and the word of the bits that the last two have in some cells
pub record AreWords (other left right : List ℕ) (cells : Cells) (i o l r word : ℕ) : Type 0 where
  pub other_is : o ≡ get_or other i 0
  pub left_is : l ≡ get_or left i 0
  pub right_is : r ≡ get_or right i 0
  pub in_cells_is : (j : ℕ) → j < 64 → word_bit word j ≡ in_cells cells (word_bit l j) (word_bit r j)

pub meets_by : (one other left right : List ℕ) (cells : Cells) (i o l r word : ℕ) → AreWords other left right cells i o l r word →
    (j : ℕ) → j < 64 → meets_at one other left right cells (64 * i + j) ≡ word_bit (bit_and (bit_and (get_or one i 0) o) word) j
meets_by one other left right cells i o l r word are j within =
    meets_word one other left right cells i word (λ j h. are.in_cells_is j h ∙ ap (λ x. in_cells cells (word_bit x j) (word_bit r j)) are.left_is ∙ ap (λ x. in_cells cells (word_bit (get_or left i 0) j) (word_bit x j)) are.right_is) j within ∙
    ap (λ x. word_bit (bit_and (bit_and (get_or one i 0) x) word) j) (sym are.other_is)

pub meets_here : (one other left right : List ℕ) (cells : Cells) (i o l r word : ℕ) → get_or one i 0 < 2 ^ 64 → AreWords other left right cells i o l r word → bit_and (bit_and (get_or one i 0) o) word ≢ 0 → SomePlace (meets_at one other left right cells)
meets_here one other left right cells i o l r word fits are some =
    some_here (meets_at one other left right cells) i (bit_and (bit_and (get_or one i 0) o) word)
    (fits_and (bit_and (get_or one i 0) o) word (fits_and (get_or one i 0) o fits)) (meets_by one other left right cells i o l r word are) some

pub meets_more : (one other left right : List ℕ) (cells : Cells) (i o l r word : ℕ) → AreWords other left right cells i o l r word → NoneBelow (meets_at one other left right cells) (64 * i) →
    bit_and (bit_and (get_or one i 0) o) word ≡ 0 → NoneBelow (meets_at one other left right cells) (64 * (i + 1))
meets_more one other left right cells i o l r word are below none =
    none_more (meets_at one other left right cells) i (bit_and (bit_and (get_or one i 0) o) word) below (meets_by one other left right cells i o l r word are) none

pub shifted_has : (word place : ℕ) → (bit_and (word / 2 ^ place) 1 == 1) ≡ word_bit word place
unfolding word_bit
shifted_has word place = ap (λ x. x == 1) (shr_and_one word place)

pub with_bit_has : (word place i : ℕ) → place < 64 → word_bit (bit_or word (1 * 2 ^ place % 2 ^ 64)) i ≡ (word_bit word i || (i == place))
unfolding word_bit
with_bit_has word place i within = elim (cases_eq i place) [
  | inl same ↦
      ap (λ x. bit_at (bit_or word (1 * 2 ^ place % 2 ^ 64)) x == 1) same ∙ ap (λ x. x == 1) (bit_at_set_same w64 word place within) ∙
      sym (ap (λ b. (bit_at word i == 1) || b) (eq-eqb i place same) ∙ or-true (bit_at word i == 1))
  | inr apart ↦
      ap (λ x. x == 1) (bit_at_set_other w64 word place within i apart) ∙ sym (ap (λ b. (bit_at word i == 1) || b) (ne_eqb i place apart) ∙ or_off (bit_at word i == 1))
]

-- a word that is one shifted has one bit
pub shifted_single : (word i j : ℕ) → word ≢ 0 → word < 2 ^ 64 → word ≡ 1 * 2 ^ trailing_zeros w64 word % 2 ^ 64 → word_bit word i ≡ true → word_bit word j ≡ true → i ≡ j
shifted_single word i j some fits is one other = at i one ∙ sym (at j other)
  where
    at : (k : ℕ) → word_bit word k ≡ true → k ≡ trailing_zeros w64 word
    at k h =
        let small = (bit_at-trailing_zeros w64 word (omega arith) fits).0 in
        let t = trailing_zeros w64 word in
        let step : (word_bit 0 k || (k == t)) ≡ true =
        sym (with_bit_has 0 t k small) ∙ ap (λ w. word_bit w k) (or_zero_l (1 * 2 ^ t % 2 ^ 64)) ∙ ap (λ w. word_bit w k) (sym is) ∙ h in
        eqb-true k t (ap (λ b. b || (k == t)) (sym (word_zero k)) ∙ step)

-- a row has one place at most below n
abbrev pub SingleBelow : List ℕ → ℕ → Type 0
SingleBelow words n = (k l : ℕ) → k < n → l < n → has_bit words k ≡ true → has_bit words l ≡ true → k ≡ l

-- a word without bits, and a word's only bit
pub single_zero : (words : List ℕ) (i : ℕ) → SingleBelow words (64 * i) → get_or words i 0 ≡ 0 → SingleBelow words (64 * (i + 1))
single_zero words i single none k l in_k in_l one other = elim (cases_lt k (64 * i)) [
  | inr past ↦ absurd (empty k past in_k one)
  | inl before ↦ elim (cases_lt l (64 * i)) [
    | inr past ↦ absurd (empty l past in_l other)
    | inl also ↦ single k l before also one other
  ]
]
  where
    empty : (k : ℕ) → 64 * i ≤ k → k < 64 * (i + 1) → has_bit words k ≡ true → ⊥
    empty k low high h =
        let j : ℕ = k - 64 * i in
        let same : k ≡ 64 * i + j = omega arith in
        let within : j < 64 = omega arith in
        true≢false (sym h ∙ ap (has_bit words) same ∙ has_at words i j within ∙ ap (λ w. word_bit w j) none ∙ word_zero j)

pub single_first : (words : List ℕ) (i : ℕ) → NoneBelow (has_bit words) (64 * i) →
    ((a b : ℕ) → a < 64 → b < 64 → word_bit (get_or words i 0) a ≡ true → word_bit (get_or words i 0) b ≡ true → a ≡ b) → SingleBelow words (64 * (i + 1))
single_first words i none one k l in_k in_l has_k has_l =
    let low_k : 64 * i ≤ k = late k has_k in
    let low_l : 64 * i ≤ l = late l has_l in
    let a : ℕ = k - 64 * i in
    let b : ℕ = l - 64 * i in
    let same_k : k ≡ 64 * i + a = omega arith in
    let same_l : l ≡ 64 * i + b = omega arith in
    let in_a : a < 64 = omega arith in
    let in_b : b < 64 = omega arith in
    let same = one a b in_a in_b (sym (has_at words i a in_a) ∙ ap (has_bit words) (sym same_k) ∙ has_k) (sym (has_at words i b in_b) ∙ ap (has_bit words) (sym same_l) ∙ has_l) in
    omega arith
  where
    late : (k : ℕ) → has_bit words k ≡ true → 64 * i ≤ k
    late k h = elim (cases_lt k (64 * i)) [ inl early ↦ absurd (true≢false (sym h ∙ none k early)) | inr later ↦ later ]

pub zero_more : (words : List ℕ) (i : ℕ) → NoneBelow (has_bit words) (64 * i) → get_or words i 0 ≡ 0 → NoneBelow (has_bit words) (64 * (i + 1))
zero_more words i none zero_word = none_more (has_bit words) i (get_or words i 0) none (has_at words i) zero_word

pub single_all : (words : List ℕ) (i : ℕ) → SingleBelow words (64 * i) → length words ≤ i → (k l : ℕ) → has_bit words k ≡ true → has_bit words l ≡ true → k ≡ l
single_all words i single long k l has_k has_l = single k l (early k has_k) (early l has_l) has_k has_l
  where
    early : (k : ℕ) → has_bit words k ≡ true → k < 64 * i
    early k h = elim (cases_lt k (64 * i)) [ inl before ↦ before | inr past ↦ absurd (true≢false (sym h ∙ has_past words i k long past)) ]

-- what a row has, by its word
pub has_by_word : (words : List ℕ) (word place : ℕ) → word ≡ get_or words (place / 64) 0 → word_bit word (place % 64) ≡ has_bit words place
unfolding has_bit
has_by_word words word place is = ap (λ w. word_bit w (place % 64)) is

-- a row is inside another just where it has no place that the other lacks
pub inside_by_meets : (one other : List ℕ) (met : Bool) → (IsTrue met ↔ SomePlace (meets_at one one other other neither_cell)) →
    IsTrue (not met) ↔ ((k : ℕ) → has_bit one k ≡ true → has_bit other k ≡ true)
inside_by_meets one other true met = (
  λ h. absurd (true≢false (sym h)),
  λ inside. let some = met.0 refl in absurd (lacks (has_bit one some.place) (has_bit other some.place) (inside some.place) some.passes),
)
  where
    lacks : (a b : Bool) → (a ≡ true → b ≡ true) → ((a && a) && in_cells neither_cell b b) ≡ true → ⊥
    lacks true true to h = true≢false (sym h)
    lacks true false to h = true≢false (sym (to refl))
    lacks false b to h = true≢false (sym h)
inside_by_meets one other false met = (
  λ h k has. elim (cases_Bool (has_bit other k)) [
    | inl there ↦ there
    | inr missing ↦ absurd (true≢false (sym (met.1 (record { place = k; passes = lacking (has_bit one k) (has_bit other k) has missing }))))
  ],
  λ inside. refl,
)
  where
    lacking : (a b : Bool) → a ≡ true → b ≡ false → ((a && a) && in_cells neither_cell b b) ≡ true
    lacking true false h g = refl
    lacking true true h g = absurd (true≢false g)
    lacking false b h g = absurd (true≢false (sym h))

-- a row with one word more
pub has_push : (words : List ℕ) (word i : ℕ) (test : ℕ → Bool) → length words ≡ i → ((k : ℕ) → k < 64 * i → has_bit words k ≡ test k) → ((j : ℕ) → j < 64 → word_bit word j ≡ test (64 * i + j)) →
    (k : ℕ) → k < 64 * (i + 1) → has_bit (words ++ word ∷ []) k ≡ test k
unfolding has_bit
has_push words word i test counted before is k small = elim (cases_lt k (64 * i)) [
  | inl early ↦ ap (λ w. word_bit w (k % 64)) (get_or_append_left words (word ∷ []) 0 (k / 64) (omega arith)) ∙ before k early
  | inr late ↦
      let at : k / 64 ≡ i = omega arith in
      let place : 64 * i + k % 64 ≡ k = omega arith in
      ap (λ w. word_bit w (k % 64)) (get_or_push words word 0 (k / 64) (counted ∙ sym at)) ∙ is (k % 64) (omega arith) ∙ ap test place
]

-- the lowest bit of the first word that has one is the first place of its row
pub first_here : (words : List ℕ) (i word place : ℕ) → word ≡ get_or words i 0 → word ≢ 0 → word < 2 ^ 64 → NoneBelow (has_bit words) (64 * i) → place ≡ 64 * i + trailing_zeros w64 word → IsFirst words place
unfolding word_bit
first_here words i word place is some fits none at =
    let low = bit_at-trailing_zeros w64 word (omega arith) fits in
    let within : trailing_zeros w64 word < 64 = low.0 in
    record {
      there = ap (has_bit words) at ∙ has_at words i (trailing_zeros w64 word) within ∙ ap (λ w. word_bit w (trailing_zeros w64 word)) (sym is) ∙ ap (λ x. x == 1) low.1;
      before = λ k small. elim (cases_lt k (64 * i)) [
        | inl before ↦ none k before
        | inr later ↦
            let j : ℕ = k - 64 * i in
            let same : k ≡ 64 * i + j = omega arith in
            let under : j < trailing_zeros w64 word = omega arith in
            ap (has_bit words) same ∙ has_at words i j (omega (arith, within, under)) ∙ ap (λ w. word_bit w j) (sym is) ∙ ap (λ x. x == 1) (low.2 j under)
      ];
    }
