-- Rows in two places: what each row of both together has, and which places satisfy them.
use Rattle.std.proofs.Common.{◌≡◌, ℕ, ◌+◌, ◌-◌, ◌*◌, ◌/◌, ◌%◌, ◌<◌, ◌≤◌, ◌↔◌, Bool, true, ◌&&◌, List, ◌++◌, inl, inr, length, get_or, drop, refl, sym, ap, ◌∙◌, subst, arith, Ok, Err}
use Rattle.std.specs.Prelude.{replicate, Result, IfOk, OnOk}
use Rattle.std.proofs.Math.Nat.{mul-le-mul_right}
use Rattle.std.proofs.lemmas.Bool.{cases_lt}
use Rattle.std.proofs.lemmas.List.{length-append, length-replicate, length-take, get_or_append_left, get_or-append_right, get_or-replicate, get_or_past, get_or-take, get_or-drop}
use Rattle.rcc5_core.specs.declared.Regions.{Regions}
use Rattle.bit_rows.specs.declared.words.Cells.{Cells}
use Rattle.bit_rows.specs.Rows.{word_bit, BitRows, SomePlace, bit_in, in_cells, IsPushed, IsPut}
use Rattle.bit_rows.proofs.RowBits.{bit_within, bit_past}
use Rattle.world_model.specs.Alive.{avoids_by}
use Rattle.point_frames.specs.Frames.{Satisfies, AreRegionsMet, SayAlike, left_at, IsOwing, IsNarrowed}
use Rattle.point_frames.specs.Joined.{filled, joined, HasFirst}
use Rattle.point_frames.proofs.Frames.{some_alike, some_as, left_within, AreKept}
use Rattle.point_frames.proofs.Needs.{mask_pushed}

-- what follows from an answer follows from what it says
pub if_ok : {X E : Type 0} (P Q : X → Type 0) (result : Result X E) → IfOk result P → ((x : X) → P x → Q x) → IfOk result Q
if_ok P Q (Ok x) h f = f x h
if_ok P Q (Err e) h f = h

pub on_ok : {X E : Type 0} {P Q : Type 0} (result : Result X E) → OnOk result P → (P → Q) → OnOk result Q
on_ok (Ok x) h f = f h
on_ok (Err e) h f = h

-- the words of so many rows, and how many they are
filled_at : (rows : BitRows) (j : ℕ) → j < rows.count * rows.width → get_or (filled rows) j 0 ≡ get_or rows.words j 0
filled_at rows j small =
    get_or-take n (rows.words ++ replicate n 0) j 0 small ∙
    elim (cases_lt j (length rows.words)) [
      | inl within ↦ get_or_append_left rows.words (replicate n 0) 0 j within
      | inr past ↦
          get_or-append_right rows.words (replicate n 0) (length rows.words) j 0 refl past ∙
          get_or-replicate n (j - length rows.words) 0 0 (omega arith) ∙ sym (get_or_past rows.words j 0 past)
    ]
  where
    n : ℕ
    n = rows.count * rows.width

length_filled : (rows : BitRows) → length (filled rows) ≡ rows.count * rows.width
length_filled rows =
    let n : ℕ = rows.count * rows.width in
    omega (arith, length-take n (rows.words ++ replicate n 0), length-append rows.words (replicate n 0), length-replicate {A = ℕ} n 0)

-- a row of the first place, and one of the second
pub joined_own : (own base : BitRows) (r k : ℕ) → r < own.count → bit_in (joined own base) r k ≡ bit_in own r k
joined_own own base r k small = elim (cases_lt (k / 64) own.width) [
  | inl within ↦
      let at : ℕ = r * own.width + k / 64 in
      let room : at < own.count * own.width = omega (arith, mul-le-mul_right {m = r + 1} {n = own.count} own.width (omega arith)) in
      bit_within (joined own base) r k within ∙
      ap (λ x. word_bit x (k % 64)) (get_or_append_left (filled own) (drop (2 * base.width) base.words) 0 at (omega (arith, room, length_filled own)) ∙ filled_at own at room) ∙
      sym (bit_within own r k within)
  | inr past ↦ bit_past (joined own base) r k past ∙ sym (bit_past own r k past)
]

pub joined_base : (own base : BitRows) (j k : ℕ) → base.width ≡ own.width → bit_in (joined own base) (own.count + j) k ≡ bit_in base (2 + j) k
joined_base own base j k wide = elim (cases_lt (k / 64) base.width) [
  | inl within ↦
      let at : ℕ = (own.count + j) * own.width + k / 64 in
      let n : ℕ = own.count * own.width in
      let rest : List ℕ = drop (2 * base.width) base.words in
      bit_within (joined own base) (own.count + j) k (omega (arith, within, wide)) ∙
      ap (λ x. word_bit x (k % 64)) (get_or-append_right (filled own) rest n at 0 (length_filled own) (omega arith) ∙ get_or-drop (2 * base.width) base.words (at - n) 0 ∙ ap (λ i. get_or base.words i 0) (place own.count j own.width base.width (k / 64) wide)) ∙
      sym (bit_within base (2 + j) k within)
  | inr past ↦ bit_past (joined own base) (own.count + j) k (omega (arith, past, wide)) ∙ sym (bit_past base (2 + j) k past)
]
  where
    place : (c j w v i : ℕ) → v ≡ w → 2 * v + ((c + j) * w + i - c * w) ≡ (2 + j) * v + i
    place c j w v i e = rw e (omega arith)

-- what is said of each open row, of both together
pub joined_each : (own base : BitRows) (g : Bool → ℕ → Bool) → base.width ≡ own.width → 2 ≤ own.count → 2 ≤ base.count →
    (((r : ℕ) → 2 ≤ r → r < own.count → SomePlace (λ k. g (bit_in own r k) k)) × ((r : ℕ) → 2 ≤ r → r < base.count → SomePlace (λ k. g (bit_in base r k) k))) ↔
    ((r : ℕ) → 2 ≤ r → r < own.count + (base.count - 2) → SomePlace (λ k. g (bit_in (joined own base) r k) k))
joined_each own base g wide two low = (
  λ h r least small. elim (cases_lt r own.count) [
    | inl first ↦ alike (bit_in own r) (bit_in (joined own base) r) (λ k. sym (joined_own own base r k first)) (h.0 r least first)
    | inr later ↦
        let j : ℕ = r - own.count in
        let here : own.count + j ≡ r = omega (arith, later) in
        subst (λ q. SomePlace (λ k. g (bit_in (joined own base) q k) k)) here
        (alike (bit_in base (2 + j)) (bit_in (joined own base) (own.count + j)) (λ k. sym (joined_base own base j k wide)) (h.1 (2 + j) (omega arith) (omega (arith, small, later, low))))
  ],
  λ each. (
    λ r least small. alike (bit_in (joined own base) r) (bit_in own r) (λ k. joined_own own base r k small) (each r least (omega (arith, small))),
    λ r least small.
        let j : ℕ = r - 2 in
        let here : 2 + j ≡ r = omega (arith, least) in
        subst (λ q. SomePlace (λ k. g (bit_in base q k) k)) here
        (alike (bit_in (joined own base) (own.count + j)) (bit_in base (2 + j)) (λ k. joined_base own base j k wide) (each (own.count + j) (omega (arith, two)) (omega (arith, least, small)))),
  ),
)
  where
    alike : (a b : ℕ → Bool) → ((k : ℕ) → a k ≡ b k) → SomePlace (λ k. g (a k) k) → SomePlace (λ k. g (b k) k)
    alike a b same = (some_as g a b same).0

-- what is said of each open row and of what is left, of both together
pub joined_left : (own base : BitRows) (places : ℕ → Bool) (g : Bool → Bool → ℕ → Bool) → ((k : ℕ) → places k ≡ bit_in own 0 k) → base.width ≡ own.width → 2 ≤ own.count → 2 ≤ base.count →
    (((r : ℕ) → 2 ≤ r → r < own.count → SomePlace (λ k. g (bit_in own r k) (places k) k)) × ((r : ℕ) → 2 ≤ r → r < base.count → SomePlace (λ k. g (bit_in base r k) (places k) k))) ↔
    ((r : ℕ) → 2 ≤ r → r < own.count + (base.count - 2) → SomePlace (λ k. g (bit_in (joined own base) r k) (bit_in (joined own base) 0 k) k))
joined_left own base places g shows wide two low =
    let each = joined_each own base (λ x k. g x (places k) k) wide two low in (
      λ h r least small. (left r).0 (each.0 h r least small),
      λ h. each.1 (λ r least small. (left r).1 (h r least small)),
    )
  where
    left : (r : ℕ) → SomePlace (λ k. g (bit_in (joined own base) r k) (places k) k) ↔ SomePlace (λ k. g (bit_in (joined own base) r k) (bit_in (joined own base) 0 k) k)
    left r = some_as (λ x k. g (bit_in (joined own base) r k) x k) places (bit_in (joined own base) 0) (λ k. shows k ∙ sym (joined_own own base 0 k (omega (arith, two))))

-- some places are one of each open row
abbrev pub HaveSome : BitRows → (ℕ → Bool) → Type 0
HaveSome rows some = (r : ℕ) → 2 ≤ r → r < rows.count → SomePlace (λ k. bit_in rows r k && some k)

-- what satisfies both together
pub joined_satisfies : (own base : BitRows) (some : ℕ → Bool) → base.width ≡ own.width → 2 ≤ own.count → 2 ≤ base.count →
    Satisfies (joined own base) (own.count + (base.count - 2)) some ↔ (Satisfies own own.count some × HaveSome base some)
joined_satisfies own base some wide two low =
    let each = joined_each own base (λ b k. b && some k) wide two low in
    let must = λ (k : ℕ). joined_own own base 1 k (omega (arith, two)) in (
      λ s. let both = each.1 s.open_rows in (record { must = λ k h. s.must k (must k ∙ h); open_rows = both.0 }, both.1),
      λ h. record { must = λ k e. h.0.must k (sym (must k) ∙ e); open_rows = each.0 (h.0.open_rows, h.1) },
    )

-- the two rows of a frame that are not open stand before its others
pub joined_whole : (rows own : BitRows) → 2 ≤ rows.count → HasFirst rows own 2 → HasFirst rows (joined own rows) rows.count
joined_whole rows own two first = record {
  counted = omega (arith, first.counted, two);
  width = first.width;
  same = λ r k small. elim (cases_lt r 2) [
    | inl low ↦ joined_own own rows r k (omega (arith, first.counted, low)) ∙ first.same r k low
    | inr open_row ↦
        let j : ℕ = r - 2 in
        let there : own.count + j ≡ r = omega (arith, first.counted, open_row) in
        let here : 2 + j ≡ r = omega (arith, open_row) in
        subst (λ q. bit_in (joined own rows) q k ≡ bit_in rows r k) there (joined_base own rows j k (sym first.width) ∙ ap (λ q. bit_in rows q k) here)
  ];
}

-- a copy of a frame's own rows stands on the same base
pub joined_copy : (own copy base : BitRows) → base.width ≡ own.width → HasFirst own copy own.count → HasFirst (joined own base) (joined copy base) (own.count + (base.count - 2))
joined_copy own copy base wide first = record {
  counted = omega (arith, first.counted);
  width = first.width;
  same = λ r k small. elim (cases_lt r own.count) [
    | inl low ↦ joined_own copy base r k (omega (arith, first.counted, low)) ∙ first.same r k low ∙ sym (joined_own own base r k low)
    | inr later ↦
        let j : ℕ = r - own.count in
        let there : copy.count + j ≡ r = omega (arith, first.counted, later) in
        let here : own.count + j ≡ r = omega (arith, later) in
        ap (λ q. bit_in (joined copy base) q k) (sym there) ∙ joined_base copy base j k (wide ∙ sym first.width) ∙ sym (joined_base own base j k wide) ∙ ap (λ q. bit_in (joined own base) q k) here
  ];
}

-- rows that are the same satisfy the same, owe the same and become the same
first_satisfies : (old new : BitRows) (some : ℕ → Bool) → 2 ≤ old.count → HasFirst old new old.count → Satisfies new new.count some ↔ Satisfies old old.count some
first_satisfies old new some two first = (
  λ s. record {
    must = λ k h. s.must k (first.same 1 k (omega (arith, two)) ∙ h);
    open_rows = λ r low small. some_alike (λ k. bit_in new r k && some k) (λ k. bit_in old r k && some k)
        (λ k h. ap (λ b. b && some k) (sym (first.same r k small)) ∙ h) (s.open_rows r low (omega (arith, first.counted, small)));
  },
  λ s. record {
    must = λ k h. s.must k (sym (first.same 1 k (omega (arith, two))) ∙ h);
    open_rows = λ r low small. some_alike (λ k. bit_in old r k && some k) (λ k. bit_in new r k && some k)
        (λ k h. ap (λ b. b && some k) (first.same r k (omega (arith, first.counted, small))) ∙ h) (s.open_rows r low (omega (arith, first.counted, small)));
  },
)

pub owing_first : (old mid new : BitRows) (P : (ℕ → Bool) → Type 0) → IsOwing old mid P → HasFirst mid new mid.count → IsOwing old new P
owing_first old mid new P o first = record {
  rows_two = omega (arith, o.rows_two, first.counted);
  width = first.width ∙ o.width;
  mask = λ k. first.same 0 k (omega (arith, o.rows_two)) ∙ o.mask k;
  owes = λ some within.
      let same = first_satisfies mid new some o.rows_two first in
      let both = o.owes some within in
      (λ s. both.0 (same.0 s), λ h. same.1 (both.1 h));
}

pub narrowed_first : (old mid new : BitRows) (l r : ℕ → Bool) (words : Regions) → 2 ≤ old.count → HasFirst old mid old.count → IsNarrowed mid new l r words → IsNarrowed old new l r words
narrowed_first old mid new l r words two first is = record {
  width = is.width ∙ first.width;
  mask = λ k. is.mask k ∙ left k;
  owes = λ some within.
      let same = first_satisfies old mid some two first in
      let both = is.owes some (λ k h. left k ∙ within k h) in
      (λ s. let m = both.0 s in (same.0 m.0, m.1), λ h. both.1 (same.1 h.0, h.1));
}
  where
    left : (k : ℕ) → left_at mid l r words k ≡ left_at old l r words k
    left k = ap (λ b. b && avoids_by words (l k) (r k)) (first.same 0 k (omega (arith, two)))

-- words are said of two sets: the own rows change, and no need is added that is there already
pub joined_narrowed : (own mid new base : BitRows) (l r places : ℕ → Bool) (words needed : Regions) (kept : Cells) → AreKept kept words → ((k : ℕ) → places k ≡ bit_in own 0 k) → base.width ≡ own.width → 2 ≤ own.count → 2 ≤ base.count →
    IsPut own mid 0 (λ k. places k && places k && in_cells kept (l k) (r k)) → SayAlike (joined own base) l r needed words → IsOwing mid new (AreRegionsMet needed l r) → IsNarrowed (joined own base) (joined new base) l r words
joined_narrowed own mid new base l r places words needed kept are shows wide two low put alike o = record {
  width = width;
  mask = λ k. joined_own new base 0 k (omega (arith, o.rows_two)) ∙ o.mask k ∙ put.there k ∙ left k;
  owes = λ some within.
      let here = λ (k : ℕ) (h : some k ≡ true). left k ∙ within k h in
      let both = o.owes some (λ k h. put.there k ∙ here k h) in
      let before = joined_satisfies own base some wide two low in
      let after = joined_satisfies new base some (wide ∙ sym width) o.rows_two low in
      let same = put_satisfies some in
      let words_same = alike some (λ k h. left_within (joined own base) l r words k (within k h)) in (
        λ s. let m = after.0 s in let f = both.0 m.0 in let all = before.1 (same.0 f.0, m.1) in (all, (words_same all).0 f.1),
        λ h. let m = before.0 h.0 in after.1 (both.1 (same.1 m.0, (words_same h.0).1 h.1), m.1),
      );
}
  where
    width : new.width ≡ own.width
    width = o.width ∙ put.width

    left : (k : ℕ) → (places k && places k && in_cells kept (l k) (r k)) ≡ left_at (joined own base) l r words k
    left k = mask_pushed (joined own base) l r words places kept are (λ k. shows k ∙ sym (joined_own own base 0 k (omega (arith, two)))) k

    row : (one other : BitRows) (some : ℕ → Bool) (q : ℕ) → ((k : ℕ) → bit_in one q k ≡ bit_in other q k) → SomePlace (λ k. bit_in one q k && some k) → SomePlace (λ k. bit_in other q k && some k)
    row one other some q same = (some_as (λ x k. x && some k) (bit_in one q) (bit_in other q) same).0

    put_satisfies : (some : ℕ → Bool) → Satisfies mid mid.count some ↔ Satisfies own own.count some
    put_satisfies some = (
      λ s. record { must = λ k h. s.must k (put.others 1 k (λ e. omega (arith, e)) ∙ h); open_rows = λ q least small. row mid own some q (λ k. put.others q k (λ e. omega (arith, e, least))) (s.open_rows q least (omega (arith, small, put.count))) },
      λ s. record { must = λ k h. s.must k (sym (put.others 1 k (λ e. omega (arith, e))) ∙ h); open_rows = λ q least small. row own mid some q (λ k. sym (put.others q k (λ e. omega (arith, e, least)))) (s.open_rows q least (omega (arith, small, put.count))) },
    )

-- rows are copied one after another
pub first_none : (old new : BitRows) → new.count ≡ 0 → new.width ≡ old.width → HasFirst old new 0
first_none old new none wide = record { counted = none; width = wide; same = λ r k small. absurd (omega (arith, small)) }

pub first_more : (old now new : BitRows) (n : ℕ) (test : ℕ → Bool) → HasFirst old now n → IsPushed now new test → ((k : ℕ) → test k ≡ bit_in old n k) → HasFirst old new (n + 1)
first_more old now new n test first pushed is = record {
  counted = pushed.count ∙ ap (λ m. m + 1) first.counted;
  width = pushed.width ∙ first.width;
  same = λ r k small. elim (cases_lt r n) [
    | inl before ↦ pushed.before r k (omega (arith, first.counted, before)) ∙ first.same r k before
    | inr last ↦
        let here : n ≡ r = omega (arith, small, last) in
        subst (λ q. bit_in new q k ≡ bit_in old q k) here (ap (λ q. bit_in new q k) (sym first.counted) ∙ pushed.there k ∙ is k)
  ];
}
