-- Bits of rows that stand one after another.
use Rattle.std.proofs.Common.{◌≡◌, ◌≢◌, ℕ, ◌+◌, ◌-◌, ◌*◌, ◌/◌, ◌%◌, ◌<◌, ◌≤◌, Bool, false, ◌&&◌, ◌||◌, inl, inr, List, [], ◌++◌, length, get_or, set, take, drop, refl, sym, ap, ◌∙◌, arith, bit_or}
use Rattle.std.specs.Prelude.{◌==◌, replicate}
use Rattle.std.proofs.Math.Nat.{mul-le-mul_right}
use Rattle.std.proofs.lemmas.Bool.{cases_lt, cases_eq, eq-eqb, ne_eqb}
use Rattle.std.proofs.lemmas.List.{length-append, get_or_append_left, get_or-append_right, get_or-replicate, length-replicate, take_all, get_or_past, get_or-take, get_or-drop, get_or-set_same, get_or-set_other, length-set, length-take}
use Rattle.bit_rows.specs.declared.words.Cells.{Cells}
use Rattle.bit_rows.specs.Rows.{word_bit, has_bit, SomePlace, in_cells, BitRows, bit_in, IsPushed, IsPut, IsPopped, meets_at}
use Rattle.bit_rows.proofs.WordBits.{has_at, has_past, word_zero, word_or, or_off}

-- a place of a row in the words, and a place past its end
pub bit_within : (rows : BitRows) (r k : ℕ) → k / 64 < rows.width → bit_in rows r k ≡ word_bit (get_or rows.words (r * rows.width + k / 64) 0) (k % 64)
unfolding bit_in has_bit
bit_within rows r k within =
    ap (λ w. word_bit w (k % 64)) (get_or-take rows.width (drop (r * rows.width) rows.words) (k / 64) 0 within ∙ get_or-drop (r * rows.width) rows.words (k / 64) 0)

pub bit_past : (rows : BitRows) (r k : ℕ) → rows.width ≤ k / 64 → bit_in rows r k ≡ false
unfolding bit_in has_bit
bit_past rows r k past =
    ap (λ w. word_bit w (k % 64)) (get_or_past (take rows.width (drop (r * rows.width) rows.words)) (k / 64) 0 (omega (arith, length-take rows.width (drop (r * rows.width) rows.words)))) ∙ word_zero (k % 64)

pub has_past_end : (words : List ℕ) (k : ℕ) → length words ≤ k / 64 → has_bit words k ≡ false
has_past_end words k past = has_past words (k / 64) k past (omega arith)

-- the rows' words are so many
abbrev pub AreFilled : BitRows → Type 0
AreFilled rows = length rows.words ≡ rows.count * rows.width

-- rows that come after one another begin apart
rows_apart : (a b w : ℕ) → a < b → a * w + w ≤ b * w
rows_apart a b w h = omega (arith, mul-le-mul_right {m = a + 1} {n = b} w (omega arith))

-- while a row is written word by word: what is before it and what is to come stay, and what is written has its test
pub record IsWriting (old now : BitRows) (row i : ℕ) (test : ℕ → Bool) : Type 0 where
  pub count : now.count ≡ old.count
  pub width : now.width ≡ old.width
  pub counted : length now.words ≡ length old.words
  pub before : (j : ℕ) → j < row * old.width → get_or now.words j 0 ≡ get_or old.words j 0
  pub after : (j : ℕ) → row * old.width + i ≤ j → get_or now.words j 0 ≡ get_or old.words j 0
  pub there : (j b : ℕ) → j < i → b < 64 → word_bit (get_or now.words (row * old.width + j) 0) b ≡ test (64 * j + b)

pub writing_starts : (rows : BitRows) (row : ℕ) (test : ℕ → Bool) → IsWriting rows rows row 0 test
writing_starts rows row test = record {
  count = refl;
  width = refl;
  counted = refl;
  before = λ j h. refl;
  after = λ j h. refl;
  there = λ j b small h. absurd (omega arith);
}

pub writing_more : (old now : BitRows) (row i word : ℕ) (test : ℕ → Bool) → IsWriting old now row i test → row * old.width + i < length now.words →
    ((b : ℕ) → b < 64 → word_bit word b ≡ test (64 * i + b)) → IsWriting old (record now { words = set now.words (row * old.width + i) word }) row (i + 1) test
writing_more old now row i word test w room is = record {
  count = w.count;
  width = w.width;
  counted = length-set now.words (row * old.width + i) word ∙ w.counted;
  before = λ j h. get_or-set_other now.words (row * old.width + i) j word 0 (omega arith) ∙ w.before j h;
  after = λ j h. get_or-set_other now.words (row * old.width + i) j word 0 (omega arith) ∙ w.after j (omega arith);
  there = λ j b small h. elim (cases_lt j i) [
    | inl earlier ↦ ap (λ x. word_bit x b) (get_or-set_other now.words (row * old.width + i) (row * old.width + j) word 0 (omega arith)) ∙ w.there j b earlier h
    | inr last ↦
        let same : j ≡ i = omega arith in
        rw same (ap (λ x. word_bit x b) (get_or-set_same now.words (row * old.width + i) word 0 room) ∙ is b h)
  ];
}

pub written : (old now : BitRows) (row i : ℕ) (test : ℕ → Bool) → IsWriting old now row i test → i ≡ old.width → ((k : ℕ) → old.width ≤ k / 64 → test k ≡ false) → IsPut old now row test
written old now row i test w done none = record {
  count = w.count;
  width = w.width;
  there = λ k. elim (cases_lt (k / 64) old.width) [
    | inl within ↦
        let place : 64 * (k / 64) + k % 64 ≡ k = omega arith in
        let width = w.width in
        let bounded : k / 64 < now.width = omega arith in
        bit_within now row k bounded ∙ ap (λ n. word_bit (get_or now.words (row * n + k / 64) 0) (k % 64)) width ∙ w.there (k / 64) (k % 64) (omega arith) (omega arith) ∙ ap test place
    | inr past ↦ let width = w.width in bit_past now row k (omega arith) ∙ sym (none k past)
  ];
  others = λ r k apart. elim (cases_lt (k / 64) old.width) [
    | inr past ↦ let width = w.width in bit_past now r k (omega arith) ∙ sym (bit_past old r k past)
    | inl within ↦
        let width = w.width in
        let bounded : k / 64 < now.width = omega arith in
        let same : get_or now.words (r * old.width + k / 64) 0 ≡ get_or old.words (r * old.width + k / 64) 0 = elim (cases_lt r row) [
          | inl above ↦ w.before (r * old.width + k / 64) (omega (arith, rows_apart r row old.width above))
          | inr below ↦ w.after (r * old.width + k / 64) (omega (arith, rows_apart row r old.width (omega arith)))
        ] in
        bit_within now r k bounded ∙ ap (λ n. word_bit (get_or now.words (r * n + k / 64) 0) (k % 64)) width ∙ ap (λ x. word_bit x (k % 64)) same ∙ sym (bit_within old r k within)
  ];
}

-- there is room for each word of a row
pub row_room : (rows : BitRows) (row i : ℕ) → AreFilled rows → row < rows.count → i < rows.width → row * rows.width + i < length rows.words
row_room rows row i filled small within = omega (arith, rows_apart row rows.count rows.width small)

-- the row that two others have in common in some cells, past its end
pub common_past : (one other left right : List ℕ) (cells : Cells) (width : ℕ) → length one ≤ width → (k : ℕ) → width ≤ k / 64 → meets_at one other left right cells k ≡ false
common_past one other left right cells width long k past =
    ap (λ a. (a && has_bit other k) && in_cells cells (has_bit left k) (has_bit right k)) (has_past_end one k (omega arith))

-- a row of old bits and new ones
abbrev pub joined_at : BitRows → ℕ → List ℕ → ℕ → Bool
joined_at rows row other k = bit_in rows row k || has_bit other k

pub joined_past : (rows : BitRows) (row : ℕ) (other : List ℕ) → length other ≤ rows.width → (k : ℕ) → rows.width ≤ k / 64 → joined_at rows row other k ≡ false
joined_past rows row other long k past =
    ap (λ a. a || has_bit other k) (bit_past rows row k past) ∙ has_past_end other k (omega arith)

-- the word of one more
pub joined_word : (old now : BitRows) (row i o : ℕ) (other : List ℕ) → IsWriting old now row i (joined_at old row other) → i < old.width → o ≡ get_or other i 0 →
    (b : ℕ) → b < 64 → word_bit (bit_or (get_or now.words (row * old.width + i) 0) o) b ≡ joined_at old row other (64 * i + b)
joined_word old now row i o other w within is b small =
    let place : (64 * i + b) / 64 ≡ i = omega arith in
    let rest : (64 * i + b) % 64 ≡ b = omega arith in
    let bounded : (64 * i + b) / 64 < old.width = omega arith in
    word_or (get_or now.words (row * old.width + i) 0) o b ∙
    ap (λ x. word_bit x b || word_bit o b) (w.after (row * old.width + i) (omega arith)) ∙
    ap (λ y. word_bit (get_or old.words (row * old.width + i) 0) b || word_bit y b) is ∙
    ap (λ x. x || word_bit (get_or other i 0) b) (sym (bit_within old row (64 * i + b) bounded ∙ ap (λ n. word_bit (get_or old.words (row * old.width + n) 0) ((64 * i + b) % 64)) place ∙ ap (word_bit (get_or old.words (row * old.width + i) 0)) rest)) ∙
    ap (λ y. bit_in old row (64 * i + b) || y) (sym (has_at other i b small))

-- words that are filled up with 0
pub filled_up : (old new : List ℕ) (len more : ℕ) → new ≡ take len old ++ replicate more 0 → length old ≤ len →
    ((j : ℕ) → j < length old → get_or new j 0 ≡ get_or old j 0) × ((j : ℕ) → length old ≤ j → get_or new j 0 ≡ 0)
filled_up old new len more is long = (
  λ j h. ap (λ ws. get_or ws j 0) whole ∙ get_or_append_left old (replicate more 0) 0 j h,
  λ j h. ap (λ ws. get_or ws j 0) whole ∙ get_or-append_right old (replicate more 0) (length old) j 0 refl h ∙ zero_at more (j - length old),
)
  where
    whole : new ≡ old ++ replicate more 0
    whole = is ∙ ap (λ ws. ws ++ replicate more 0) (take_all len old long)

    zero_at : (n i : ℕ) → ◌≡◌ {A = ℕ} (get_or (replicate n 0) i 0) 0
    zero_at n i = elim (cases_lt i n) [
      | inl within ↦ get_or-replicate n i 0 0 within
      | inr past ↦ get_or_past (replicate n 0) i 0 (omega (arith, length-replicate {A = ℕ} n 0))
    ]

-- one row more, without bits
pub pushed_empty : (rows : BitRows) (words : List ℕ) → AreFilled rows →
    ((j : ℕ) → j < length rows.words → get_or words j 0 ≡ get_or rows.words j 0) → ((j : ℕ) → length rows.words ≤ j → get_or words j 0 ≡ 0) →
    IsPushed rows (record { count = rows.count + 1; width = rows.width; words = words }) (λ _. false)
pushed_empty rows words filled old new = record {
  count = refl;
  width = refl;
  there = λ k. elim (cases_lt (k / 64) rows.width) [
    | inl within ↦
        bit_within now rows.count k within ∙ ap (λ x. word_bit x (k % 64)) (new (rows.count * rows.width + k / 64) (omega (arith, filled))) ∙ word_zero (k % 64)
    | inr past ↦ bit_past now rows.count k past
  ];
  before = λ r k small. elim (cases_lt (k / 64) rows.width) [
    | inl within ↦
        bit_within now r k within ∙ ap (λ x. word_bit x (k % 64)) (old (r * rows.width + k / 64) (row_room rows r (k / 64) filled small within)) ∙ sym (bit_within rows r k within)
    | inr past ↦ bit_past now r k past ∙ sym (bit_past rows r k past)
  ];
  past = λ r k large. elim (cases_lt (k / 64) rows.width) [
    | inl within ↦
        let far : length rows.words ≤ r * rows.width + k / 64 = omega (arith, filled, rows_apart rows.count r rows.width large) in
        bit_within now r k within ∙ ap (λ x. word_bit x (k % 64)) (new (r * rows.width + k / 64) far ∙ sym (get_or_past rows.words (r * rows.width + k / 64) 0 far)) ∙ sym (bit_within rows r k within)
    | inr past ↦ bit_past now r k past ∙ sym (bit_past rows r k past)
  ];
}
  where
    now : BitRows
    now = record { count = rows.count + 1; width = rows.width; words = words }

-- no rows have no bits
pub empty_words : (rows : BitRows) → rows.words ≡ [] → (r k : ℕ) → bit_in rows r k ≡ false
empty_words rows none r k = elim (cases_lt (k / 64) rows.width) [
  | inl within ↦ bit_within rows r k within ∙ ap (λ x. word_bit x (k % 64)) (ap (λ ws. get_or ws (r * rows.width + k / 64) 0) none) ∙ word_zero (k % 64)
  | inr past ↦ bit_past rows r k past
]

-- rows without bits, and one more
pub empty_more : (old new : BitRows) → ((r k : ℕ) → bit_in old r k ≡ false) → IsPushed old new (λ _. false) → (r k : ℕ) → bit_in new r k ≡ false
empty_more old new none pushed r k = elim (cases_lt r old.count) [
  | inl small ↦ pushed.before r k small ∙ none r k
  | inr later ↦ elim (cases_eq r old.count) [
    | inl same ↦ ap (λ q. bit_in new q k) same ∙ pushed.there k
    | inr apart ↦ pushed.past r k (omega arith) ∙ none r k
  ]
]

-- one place more in a row
pub put_bit : (rows : BitRows) (row place word : ℕ) → row * rows.width + place / 64 < length rows.words → place < 64 * rows.width →
    ((i : ℕ) → i < 64 → word_bit word i ≡ (word_bit (get_or rows.words (row * rows.width + place / 64) 0) i || (i == place % 64))) →
    IsPut rows (record rows { words = set rows.words (row * rows.width + place / 64) word }) row (λ k. bit_in rows row k || (k == place))
put_bit rows row place word room within is = record {
  count = refl;
  width = refl;
  there = λ k. elim (cases_lt (k / 64) rows.width) [
    | inr past ↦
        let apart : k ≢ place = omega arith in
        bit_past now row k past ∙ sym (ap (λ b. b || (k == place)) (bit_past rows row k past) ∙ ne_eqb k place apart)
    | inl small ↦ elim (cases_eq (k / 64) (place / 64)) [
      | inl same ↦
          bit_within now row k small ∙ ap (λ n. word_bit (get_or words (row * rows.width + n) 0) (k % 64)) same ∙
          ap (λ w. word_bit w (k % 64)) (get_or-set_same rows.words at word 0 room) ∙ is (k % 64) (omega arith) ∙
          ap (λ b. b || ((k % 64) == (place % 64))) (ap (λ n. word_bit (get_or rows.words (row * rows.width + n) 0) (k % 64)) (sym same) ∙ sym (bit_within rows row k small)) ∙
          ap (λ b. bit_in rows row k || b) (rest_is k same)
      | inr other ↦
          let apart : k ≢ place = λ e. other (ap (λ n. n / 64) e) in
          let away : row * rows.width + k / 64 ≢ at = omega arith in
          bit_within now row k small ∙ ap (λ w. word_bit w (k % 64)) (get_or-set_other rows.words at (row * rows.width + k / 64) word 0 away) ∙ sym (bit_within rows row k small) ∙
          sym (ap (λ b. bit_in rows row k || b) (ne_eqb k place apart) ∙ or_off (bit_in rows row k))
    ]
  ];
  others = λ r k apart. elim (cases_lt (k / 64) rows.width) [
    | inr past ↦ bit_past now r k past ∙ sym (bit_past rows r k past)
    | inl small ↦
        let away : r * rows.width + k / 64 ≢ at = elim (cases_lt r row) [
          | inl above ↦ λ e. omega (arith, e, rows_apart r row rows.width above)
          | inr below ↦ λ e. omega (arith, e, rows_apart row r rows.width (omega arith))
        ] in
        bit_within now r k small ∙ ap (λ w. word_bit w (k % 64)) (get_or-set_other rows.words at (r * rows.width + k / 64) word 0 away) ∙ sym (bit_within rows r k small)
  ];
}
  where
    at : ℕ
    at = row * rows.width + place / 64

    words : List ℕ
    words = set rows.words at word

    now : BitRows
    now = record { count = rows.count; width = rows.width; words = words }

    rest_is : (k : ℕ) → k / 64 ≡ place / 64 → ((k % 64) == (place % 64)) ≡ (k == place)
    rest_is k same = elim (cases_eq k place) [
      | inl equal ↦ eq-eqb (k % 64) (place % 64) (ap (λ n. n % 64) equal) ∙ sym (eq-eqb k place equal)
      | inr apart ↦ ne_eqb (k % 64) (place % 64) (λ e. apart (omega (arith, e, same))) ∙ sym (ne_eqb k place apart)
    ]

by_words : (row : List ℕ) (k : ℕ) → word_bit (get_or row (k / 64) 0) (k % 64) ≡ has_bit row k
unfolding has_bit
by_words row k = refl

-- one row more, which is a copy of words
pub pushed_copy : (rows : BitRows) (row words : List ℕ) → AreFilled rows → length row ≡ rows.width → words ≡ rows.words ++ row →
    IsPushed rows (record { count = rows.count + 1; width = rows.width; words = words }) (has_bit row)
pushed_copy rows row words filled long is = record {
  count = refl;
  width = refl;
  there = λ k. elim (cases_lt (k / 64) rows.width) [
    | inl within ↦
        let skip : rows.count * rows.width + k / 64 - length rows.words ≡ k / 64 = omega (arith, filled) in
        bit_within now rows.count k within ∙
        ap (λ x. word_bit x (k % 64)) (ap (λ ws. get_or ws (rows.count * rows.width + k / 64) 0) is ∙
        get_or-append_right rows.words row (length rows.words) (rows.count * rows.width + k / 64) 0 refl (omega (arith, filled)) ∙ ap (λ n. get_or row n 0) skip) ∙
        by_words row k
    | inr past ↦ bit_past now rows.count k past ∙ sym (has_past_end row k (omega (arith, long)))
  ];
  before = λ r k small. elim (cases_lt (k / 64) rows.width) [
    | inl within ↦
        bit_within now r k within ∙
        ap (λ x. word_bit x (k % 64)) (ap (λ ws. get_or ws (r * rows.width + k / 64) 0) is ∙ get_or_append_left rows.words row 0 (r * rows.width + k / 64) (row_room rows r (k / 64) filled small within)) ∙
        sym (bit_within rows r k within)
    | inr past ↦ bit_past now r k past ∙ sym (bit_past rows r k past)
  ];
  past = λ r k large. elim (cases_lt (k / 64) rows.width) [
    | inl within ↦
        let apart = rows_apart rows.count r rows.width large in
        let far : length rows.words ≤ r * rows.width + k / 64 = omega (arith, filled, apart) in
        let end : length words ≤ r * rows.width + k / 64 = omega (arith, ap length is, length-append rows.words row, long, filled, apart) in
        bit_within now r k within ∙ ap (λ x. word_bit x (k % 64)) (get_or_past words (r * rows.width + k / 64) 0 end ∙ sym (get_or_past rows.words (r * rows.width + k / 64) 0 far)) ∙ sym (bit_within rows r k within)
    | inr past ↦ bit_past now r k past ∙ sym (bit_past rows r k past)
  ];
}
  where
    now : BitRows
    now = record { count = rows.count + 1; width = rows.width; words = words }

-- the last row is taken away
pub popped : (rows : BitRows) (words : List ℕ) (less : ℕ) → AreFilled rows → rows.count ≡ less + 1 → words ≡ take (less * rows.width) rows.words →
    IsPopped rows (record { count = less; width = rows.width; words = words })
popped rows words less filled is taken = record {
  count = sym is;
  width = refl;
  before = λ r k small. elim (cases_lt (k / 64) rows.width) [
    | inl within ↦
        let now : BitRows = record { count = less; width = rows.width; words = words } in
        let room : r * rows.width + k / 64 < less * rows.width = omega (arith, rows_apart r less rows.width small) in
        bit_within now r k within ∙ ap (λ x. word_bit x (k % 64)) (ap (λ ws. get_or ws (r * rows.width + k / 64) 0) taken ∙ get_or-take (less * rows.width) rows.words (r * rows.width + k / 64) 0 room) ∙ sym (bit_within rows r k within)
    | inr past ↦ bit_past (record { count = less; width = rows.width; words = words }) r k past ∙ sym (bit_past rows r k past)
  ];
}

-- a common place of two rows, by what they show
pub shown_common : (a b f g : ℕ → Bool) → ((k : ℕ) → a k ≡ f k) → ((k : ℕ) → b k ≡ g k) → SomePlace (λ k. a k && b k) → SomePlace (λ k. f k && g k)
shown_common a b f g one other some = record {
  place = some.place;
  passes = ap (λ x. x && g some.place) (sym (one some.place)) ∙ ap (λ x. a some.place && x) (sym (other some.place)) ∙ some.passes;
}
