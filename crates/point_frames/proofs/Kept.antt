-- Regions in which one place has to stay already, and words without them.
use Rattle.std.proofs.Common.{◌≡◌, ℕ, zero, suc, ◌*◌, ◌<◌, ◌≤◌, ◌↔◌, ◌⊎◌, Bool, true, false, ◌&&◌, not, inl, inr, refl, sym, ap, ◌∙◌, subst, arith}
use Rattle.std.proofs.lemmas.Bool.{and_from, and_parts, true≢false, false≢true, cases_lt, cases_Bool}
use Rattle.rcc5_core.specs.declared.Occupancy.{Occupancy}
use Rattle.rcc5_core.specs.declared.Region.{Region}
use Rattle.rcc5_core.specs.declared.Region.TheVariants.{LeftOnly, Both, RightOnly}
use Rattle.rcc5_core.specs.declared.Regions.{Regions}
use Rattle.bit_rows.specs.declared.words.Cells.{Cells}
use Rattle.bit_rows.specs.Rows.{SomePlace, BitRows, bit_in, in_cells, other_cells, neither_cell}
use Rattle.bit_rows.proofs.RowBits.{bit_past}
use Rattle.world_model.specs.Alive.{lies_by, avoids_by}
use Rattle.point_frames.specs.Frames.{is_occupied, AreWithin, Satisfies, IsInRegion, IsMetBy, IsRegionMet, AreRegionsMet, SayAlike, IsNarrowed, cell_of, open_at}
use Rattle.point_frames.proofs.Frames.{LosesNone, left_within, others_not, three_from, three_parts, three_regions}

-- a test that failed did not pass
pub not_true : (b : Bool) → not b ≡ true → b ≡ true → ⊥
not_true true off on = false≢true off
not_true false off on = false≢true on

-- among so many places one passes a test, or none does
below : (f : ℕ → Bool) (n : ℕ) → SomePlace f ⊎ ((k : ℕ) → k < n → f k ≡ false)
below f zero = inr (λ k small. absurd (omega (arith, small)))
below f (suc n) = elim (below f n) [
  | inl some ↦ inl some
  | inr none ↦ elim (cases_Bool (f n)) [
    | inl here ↦ inl (record { place = n; passes = here })
    | inr out ↦ inr (λ k small. elim (cases_lt k n) [
      | inl before ↦ none k before
      | inr last ↦ let here : n ≡ k = omega (arith, small, last) in subst (λ q. f q ≡ false) here out
    ])
  ]
]

-- where one of the places that have to stay is in a region
pub kept_by_must : (rows : BitRows) (l r must some : ℕ → Bool) (region : Region) (cells : Cells) → ((k : ℕ) → must k ≡ bit_in rows 1 k) → ((a b : Bool) → in_cells cells a b ≡ lies_by region a b) →
    SomePlace (λ k. must k && must k && in_cells cells (l k) (r k)) → Satisfies rows rows.count some → IsInRegion l r some region
kept_by_must rows l r must some region cells shows are there s =
    let k = there.place in
    let parts = three_parts (must k) (must k) (in_cells cells (l k) (r k)) there.passes in
    record { place = k; passes = and_from (some k) (lies_by region (l k) (r k)) (s.must k (sym (shows k) ∙ parts.0)) (sym (are (l k) (r k)) ∙ parts.2) }

-- where the places that are left of an open row are all in a region
pub kept_by_open : (rows : BitRows) (l r some : ℕ → Bool) (region : Region) (cells outside : Cells) → ((a b : Bool) → in_cells cells a b ≡ lies_by region a b) → outside ≡ other_cells cells →
    (((q : ℕ) → 2 ≤ q → q < rows.count → SomePlace (open_at rows l r outside q)) → ⊥) → AreWithin some (bit_in rows 0) → Satisfies rows rows.count some → IsInRegion l r some region
kept_by_open rows l r some region cells outside are is unmet within s = elim (below test (64 * rows.width)) [
  | inl there ↦ there
  | inr none ↦ absurd (unmet (λ q low small.
      let have = s.open_rows q low small in
      let k = have.place in
      let parts = and_parts (bit_in rows q k) (some k) have.passes in
      record { place = k; passes = three_from (bit_in rows q k) (bit_in rows 0 k) (in_cells outside (l k) (r k)) parts.0 (within k parts.1) (beyond k parts.1 (none k (near k (within k parts.1)))) }))
]
  where
    test : ℕ → Bool
    test k = some k && lies_by region (l k) (r k)

    near : (k : ℕ) → bit_in rows 0 k ≡ true → k < 64 * rows.width
    near k there = elim (cases_lt k (64 * rows.width)) [
      | inl small ↦ small
      | inr past ↦ absurd (true≢false (sym there ∙ bit_past rows 0 k (omega (arith, past))))
    ]

    beyond : (k : ℕ) → some k ≡ true → test k ≡ false → in_cells outside (l k) (r k) ≡ true
    beyond k h out =
        let apart : lies_by region (l k) (r k) ≡ false = ap (λ b. b && lies_by region (l k) (r k)) (sym h) ∙ out in
        ap (λ cells. in_cells cells (l k) (r k)) is ∙ others_not cells (l k) (r k) ∙ ap not (are (l k) (r k) ∙ apart)

-- words that say the same of three regions
pub alike_by_three : (words : Regions) (l r some : ℕ → Bool) (a b c : Occupancy) → (IsMetBy a l r some LeftOnly ↔ IsRegionMet words l r some LeftOnly) → (IsMetBy b l r some Both ↔ IsRegionMet words l r some Both) →
    (IsMetBy c l r some RightOnly ↔ IsRegionMet words l r some RightOnly) → AreRegionsMet (record { left_only = a; both = b; right_only = c }) l r some ↔ AreRegionsMet words l r some
alike_by_three words l r some a b c one two three = (
  λ h. three_regions (IsRegionMet words l r some) (one.0 (h LeftOnly)) (two.0 (h Both)) (three.0 (h RightOnly)),
  λ h. three_regions (IsRegionMet (record { left_only = a; both = b; right_only = c }) l r some) (one.1 (h LeftOnly)) (two.1 (h Both)) (three.1 (h RightOnly)),
)

-- where no place is lost and no need is new, the rows are as before
pub same_narrowed : (rows : BitRows) (l r : ℕ → Bool) (words needed : Regions) (none : Cells) → LosesNone l r words (bit_in rows 0) → SayAlike rows l r needed words → none ≡ neither_cell →
    ((region : Region) → is_occupied needed region ≡ true → cell_of none region ≡ true) → IsNarrowed rows rows l r words
same_narrowed rows l r words needed none lost alike is no_need = record {
  width = refl;
  mask = λ k. kept (bit_in rows 0 k) (avoids_by words (l k) (r k)) (lost k);
  owes = λ some within. (
    λ s. (s, (alike some (λ k h. left_within rows l r words k (within k h)) s).0 (λ region occupied. absurd (nowhere region (ap (λ cells. cell_of cells region) (sym is) ∙ no_need region occupied)))),
    λ h. h.0,
  );
}
  where
    kept : (a b : Bool) → (a ≡ true → b ≡ true) → a ≡ (a && b)
    kept true b h = sym (h refl)
    kept false b h = refl

    nowhere : (region : Region) → cell_of neither_cell region ≡ true → ⊥
    nowhere = three_regions (λ region. cell_of neither_cell region ≡ true → ⊥) false≢true false≢true false≢true
