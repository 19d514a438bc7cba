-- What is added to a frame, and what is taken away: which places satisfy it then.
use Rattle.std.proofs.Common.{◌≡◌, ◌≢◌, ℕ, ◌+◌, ◌*◌, ◌/◌, ◌<◌, ◌≤◌, ◌↔◌, Bool, true, false, ◌&&◌, ◌||◌, List, length, inl, inr, refl, sym, ap, ◌∙◌, subst, arith}
use Rattle.std.specs.Prelude.{◌==◌}
use Rattle.std.proofs.lemmas.Bool.{and_from, and_parts, or_cases, true≢false, cases_lt, eqb-true, eq-eqb}
use Rattle.std.proofs.Math.Bool.{or-true}
use Rattle.rcc5_core.specs.declared.Regions.{Regions}
use Rattle.rcc5_core.specs.declared.Region.{Region}
use Rattle.bit_rows.specs.declared.words.Cells.{Cells}
use Rattle.bit_rows.specs.Rows.{has_bit, SomePlace, BitRows, bit_in, in_cells, IsPushed, IsPut, IsPopped}
use Rattle.bit_rows.proofs.RowBits.{has_past_end}
use Rattle.world_model.specs.Alive.{lies_by, avoids_by}
use Rattle.point_frames.specs.Frames.{AreWithin, Satisfies, AreRegionsMet, left_at, IsOwing, IsNarrowed}
use Rattle.point_frames.proofs.Frames.{some_alike, three_parts, three_from, AreKept}

-- rows that owe the same
pub owing_same : (rows : BitRows) → 2 ≤ rows.count → IsOwing rows rows (λ _. Unit {0})
owing_same rows two = record { rows_two = two; width = refl; mask = λ k. refl; owes = λ some within. (λ s. (s, tt), λ h. h.0) }

-- the last row is taken away where it is needless
pub owing_popped : (old new : BitRows) (last : ℕ) → IsPopped old new → last + 1 ≡ old.count → 2 ≤ last →
    ((some : ℕ → Bool) → Satisfies old last some → SomePlace (λ k. bit_in old last k && some k)) → IsOwing old new (λ _. Unit {0})
owing_popped old new last popped is low needless =
    let counted : new.count ≡ last = omega (arith, popped.count, is) in
    record {
      rows_two = omega (arith, counted, low);
      width = popped.width;
      mask = λ k. popped.before 0 k (omega (arith, counted, low));
      owes = λ some within. (
        λ s.
            let before : Satisfies old last some = record {
              must = λ k h. s.must k (popped.before 1 k (omega (arith, counted, low)) ∙ h);
              open_rows = λ r two small. some_alike (λ k. bit_in new r k && some k) (λ k. bit_in old r k && some k)
                  (λ k h. ap (λ b. b && some k) (sym (popped.before r k (omega (arith, counted, small)))) ∙ h) (s.open_rows r two (omega (arith, counted, small)));
            } in (
              record {
                must = before.must;
                open_rows = λ r two small. elim (cases_lt r last) [
                  | inl front ↦ before.open_rows r two front
                  | inr here ↦ let same : r ≡ last = omega (arith, small, is, here) in subst (λ q. SomePlace (λ k. bit_in old q k && some k)) (sym same) (needless some before)
                ];
              },
              tt,
            ),
        λ h. record {
          must = λ k e. h.0.must k (sym (popped.before 1 k (omega (arith, counted, low))) ∙ e);
          open_rows = λ r two small. some_alike (λ k. bit_in old r k && some k) (λ k. bit_in new r k && some k)
              (λ k e. ap (λ b. b && some k) (popped.before r k small) ∙ e) (h.0.open_rows r two (omega (arith, counted, small, is)));
        },
      );
    }

-- the only place of the last row has to stay
pub owing_single : (old mid new : BitRows) (last place : ℕ) → IsPopped old mid → last + 1 ≡ old.count → 2 ≤ last → bit_in old last place ≡ true →
    ((k l : ℕ) → bit_in old last k ≡ true → bit_in old last l ≡ true → k ≡ l) → IsPut mid new 1 (λ k. bit_in mid 1 k || (k == place)) → IsOwing old new (λ _. Unit {0})
owing_single old mid new last place popped is low there single put =
    let counted : mid.count ≡ last = omega (arith, popped.count, is) in
    let count : new.count ≡ last = put.count ∙ counted in
    let before : (r k : ℕ) → r ≢ 1 → r < last → bit_in new r k ≡ bit_in old r k = λ r k apart small. put.others r k apart ∙ popped.before r k (omega (arith, counted, small)) in
    let must : (k : ℕ) → bit_in new 1 k ≡ (bit_in old 1 k || (k == place)) = λ k. put.there k ∙ ap (λ b. b || (k == place)) (popped.before 1 k (omega (arith, counted, low))) in
    record {
      rows_two = omega (arith, count, low);
      width = put.width ∙ popped.width;
      mask = λ k. before 0 k (λ e. omega (arith, e)) (omega (arith, low));
      owes = λ some within. (
        λ s. (
          record {
            must = λ k h. s.must k (must k ∙ ap (λ b. b || (k == place)) h);
            open_rows = λ r two small. elim (cases_lt r last) [
              | inl front ↦ some_alike (λ k. bit_in new r k && some k) (λ k. bit_in old r k && some k)
                  (λ k h. ap (λ b. b && some k) (sym (before r k (λ e. omega (arith, e, two)) front)) ∙ h) (s.open_rows r two (omega (arith, count, front)))
              | inr here ↦
                  let same : r ≡ last = omega (arith, small, is, here) in
                  record { place = place; passes = and_from (bit_in old r place) (some place) (ap (λ q. bit_in old q place) same ∙ there) (s.must place (must place ∙ ap (λ b. bit_in old 1 place || b) (eq-eqb place place refl) ∙ or-true (bit_in old 1 place))) }
            ];
          },
          tt,
        ),
        λ h. record {
          must = λ k e. elim (or_cases (bit_in old 1 k) (k == place) (sym (must k) ∙ e)) [
            | inl old_one ↦ h.0.must k old_one
            | inr now ↦
                let found = h.0.open_rows last low (omega (arith, is)) in
                let parts = and_parts (bit_in old last found.place) (some found.place) found.passes in
                ap some (eqb-true k place now ∙ single place found.place there parts.0) ∙ parts.1
          ];
          open_rows = λ r two small. some_alike (λ k. bit_in old r k && some k) (λ k. bit_in new r k && some k)
              (λ k e. ap (λ b. b && some k) (before r k (λ e. omega (arith, e, two)) (omega (arith, count, small))) ∙ e) (h.0.open_rows r two (omega (arith, count, small, is)));
        },
      );
    }

-- one row more, and then rows that owe the same
pub owing_pushed : (old mid new : BitRows) (test : ℕ → Bool) → 2 ≤ old.count → IsPushed old mid test → IsOwing mid new (λ _. Unit {0}) → IsOwing old new (λ some. SomePlace (λ k. test k && some k))
owing_pushed old mid new test two pushed o =
    let counted = pushed.count in
    record {
      rows_two = o.rows_two;
      width = o.width ∙ pushed.width;
      mask = λ k. o.mask k ∙ pushed.before 0 k (omega (arith, two));
      owes = λ some within.
          let both = o.owes some (λ k h. pushed.before 0 k (omega (arith, two)) ∙ within k h) in (
            λ s.
                let m = (both.0 s).0 in (
                  record {
                    must = λ k h. m.must k (pushed.before 1 k (omega (arith, two)) ∙ h);
                    open_rows = λ r low small. some_alike (λ k. bit_in mid r k && some k) (λ k. bit_in old r k && some k)
                        (λ k h. ap (λ b. b && some k) (sym (pushed.before r k small)) ∙ h) (m.open_rows r low (omega (arith, counted, small)));
                  },
                  some_alike (λ k. bit_in mid old.count k && some k) (λ k. test k && some k)
                      (λ k h. ap (λ b. b && some k) (sym (pushed.there k)) ∙ h) (m.open_rows old.count two (omega (arith, counted))),
                ),
            λ h. both.1 (
              record {
                must = λ k e. h.0.must k (sym (pushed.before 1 k (omega (arith, two))) ∙ e);
                open_rows = λ r low small. elim (cases_lt r old.count) [
                  | inl front ↦ some_alike (λ k. bit_in old r k && some k) (λ k. bit_in mid r k && some k)
                      (λ k e. ap (λ b. b && some k) (pushed.before r k front) ∙ e) (h.0.open_rows r low front)
                  | inr here ↦
                      let same : r ≡ old.count = omega (arith, counted, small, here) in
                      some_alike (λ k. test k && some k) (λ k. bit_in mid r k && some k)
                      (λ k e. ap (λ b. b && some k) (ap (λ q. bit_in mid q k) same ∙ pushed.there k) ∙ e) h.1
                ];
              },
              tt,
            ),
          );
    }

-- what is owed, in other words, and one after another
pub owing_as : (old new : BitRows) (P Q : (ℕ → Bool) → Type 0) → IsOwing old new P → ((some : ℕ → Bool) → AreWithin some (bit_in old 0) → P some ↔ Q some) → IsOwing old new Q
owing_as old new P Q o same = record {
  rows_two = o.rows_two;
  width = o.width;
  mask = o.mask;
  owes = λ some within.
      let both = o.owes some within in
      let alike = same some within in
      (λ s. ((both.0 s).0, alike.0 (both.0 s).1), λ h. both.1 (h.0, alike.1 h.1));
}

pub owing_more : (old mid new : BitRows) (P Q : (ℕ → Bool) → Type 0) → IsOwing old mid P → IsOwing mid new Q → IsOwing old new (λ some. P some × Q some)
owing_more old mid new P Q one other = record {
  rows_two = other.rows_two;
  width = other.width ∙ one.width;
  mask = λ k. other.mask k ∙ one.mask k;
  owes = λ some within.
      let first = one.owes some within in
      let second = other.owes some (λ k h. one.mask k ∙ within k h) in (
        λ s. let m = second.0 s in let b = first.0 m.0 in (b.0, (b.1, m.1)),
        λ h. second.1 (first.1 (h.0, h.1.0), h.1.1),
      );
}

-- a need in a region of places that some rows have left
pub region_owed : (mask l r : ℕ → Bool) (cells : Cells) (region : Region) (some : ℕ → Bool) → ((a b : Bool) → in_cells cells a b ≡ lies_by region a b) → AreWithin some mask →
    SomePlace (λ k. (mask k && mask k && in_cells cells (l k) (r k)) && some k) ↔ SomePlace (λ k. some k && lies_by region (l k) (r k))
region_owed mask l r cells region some are within = (
  some_alike (λ k. (mask k && mask k && in_cells cells (l k) (r k)) && some k) (λ k. some k && lies_by region (l k) (r k)) (λ k h.
      let parts = and_parts (mask k && mask k && in_cells cells (l k) (r k)) (some k) h in
      let three = three_parts (mask k) (mask k) (in_cells cells (l k) (r k)) parts.0 in
      and_from (some k) (lies_by region (l k) (r k)) parts.1 (sym (are (l k) (r k)) ∙ three.2)),
  some_alike (λ k. some k && lies_by region (l k) (r k)) (λ k. (mask k && mask k && in_cells cells (l k) (r k)) && some k) (λ k h.
      let parts = and_parts (some k) (lies_by region (l k) (r k)) h in
      let there = within k parts.0 in
      and_from (mask k && mask k && in_cells cells (l k) (r k)) (some k) (three_from (mask k) (mask k) (in_cells cells (l k) (r k)) there there (are (l k) (r k) ∙ parts.1)) parts.0),
)

-- the rows of a new frame: the places left, those that have to stay, the regions and the open rows
pub narrowed_from : (old two new : BitRows) (l r : ℕ → Bool) (words : Regions) (kept : Cells) → AreKept kept words → two.count ≡ 2 → two.width ≡ old.width →
    ((k : ℕ) → bit_in two 0 k ≡ left_at old l r words k) → ((k : ℕ) → bit_in two 1 k ≡ bit_in old 1 k) →
    IsOwing two new (λ some. AreRegionsMet words l r some × ((q : ℕ) → 2 ≤ q → q < old.count → SomePlace (λ k. (bit_in old q k && bit_in old 0 k && in_cells kept (l k) (r k)) && some k))) →
    IsNarrowed old new l r words
narrowed_from old two new l r words kept are counted wide mask must o = record {
  width = o.width ∙ wide;
  mask = λ k. o.mask k ∙ mask k;
  owes = λ some within.
      let both = o.owes some (λ k h. mask k ∙ within k h) in (
        λ s.
            let m = both.0 s in (
              record {
                must = λ k h. m.0.must k (must k ∙ h);
                open_rows = λ q low small. some_alike (λ k. (bit_in old q k && bit_in old 0 k && in_cells kept (l k) (r k)) && some k) (λ k. bit_in old q k && some k) (λ k h.
                    let parts = and_parts (bit_in old q k && bit_in old 0 k && in_cells kept (l k) (r k)) (some k) h in
                    let three = three_parts (bit_in old q k) (bit_in old 0 k) (in_cells kept (l k) (r k)) parts.0 in
                    and_from (bit_in old q k) (some k) three.0 parts.1) (m.1.1 q low small);
              },
              m.1.0,
            ),
        λ h. both.1 (
          record { must = λ k e. h.0.must k (sym (must k) ∙ e); open_rows = λ q low small. absurd (omega (arith, counted, low, small)) },
          (
            h.1,
            λ q low small. some_alike (λ k. bit_in old q k && some k) (λ k. (bit_in old q k && bit_in old 0 k && in_cells kept (l k) (r k)) && some k) (λ k e.
                let parts = and_parts (bit_in old q k) (some k) e in
                let left = and_parts (bit_in old 0 k) (avoids_by words (l k) (r k)) (within k parts.1) in
                and_from (bit_in old q k && bit_in old 0 k && in_cells kept (l k) (r k)) (some k)
                (three_from (bit_in old q k) (bit_in old 0 k) (in_cells kept (l k) (r k)) parts.0 left.0 (are (l k) (r k) ∙ left.1)) parts.1) (h.0.open_rows q low small),
          ),
        ),
      );
}

-- a place of a row is within its words
pub place_within : (words : List ℕ) (place width : ℕ) → has_bit words place ≡ true → length words ≡ width → place < 64 * width
place_within words place width h long = elim (cases_lt (place / 64) width) [
  | inl within ↦ omega arith
  | inr past ↦ absurd (true≢false (sym h ∙ has_past_end words place (omega (arith, long, past))))
]

-- what is owed for each number up to one more
pub each_more : (F : ℕ → Type 0) (n : ℕ) → 2 ≤ n → (((r : ℕ) → 2 ≤ r → r < n → F r) × F n) ↔ ((r : ℕ) → 2 ≤ r → r < n + 1 → F r)
each_more F n low = (
  λ h r two small. elim (cases_lt r n) [
    | inl before ↦ h.0 r two before
    | inr here ↦ let same : n ≡ r = omega (arith, small, here) in subst F same h.1
  ],
  λ each. (λ r two small. each r two (omega (arith, small)), each n low (omega arith)),
)

-- the row of what is left, as it is pushed
pub mask_pushed : (old : BitRows) (l r : ℕ → Bool) (words : Regions) (mask : ℕ → Bool) (kept : Cells) → AreKept kept words → ((k : ℕ) → mask k ≡ bit_in old 0 k) →
    (k : ℕ) → (mask k && mask k && in_cells kept (l k) (r k)) ≡ left_at old l r words k
mask_pushed old l r words mask kept are shows k =
    ap (λ b. (mask k && mask k) && b) (are (l k) (r k)) ∙ twice (mask k) (avoids_by words (l k) (r k)) ∙ ap (λ b. b && avoids_by words (l k) (r k)) (shows k)
  where
    twice : (a b : Bool) → ((a && a) && b) ≡ (a && b)
    twice true b = refl
    twice false b = refl
