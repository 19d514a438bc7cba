-- The frame of a problem itself.
use Rattle.std.proofs.Common.{◌≡◌, ℕ, ◌+◌, ◌/◌, ◌<◌, ◌↔◌, Bool, true, false, ◌&&◌, not, List, length, get_or, inl, inr, refl, sym, ap, ◌∙◌, subst, arith}
use Rattle.std.specs.Prelude.{nat_lt}
use Rattle.std.proofs.lemmas.Bool.{and_from, true≢false, cases_lt, lt-ltb, le-ltb}
use Rattle.rcc5_core.specs.declared.RelSet.{RelSet}
use Rattle.rcc5_core.specs.declared.Region.{Region}
use Rattle.rcc5_core.specs.declared.Regions.{Regions}
use Rattle.rcc5_core.specs.RelationSet.{is_empty_set, no_rels}
use Rattle.world_model.specs.Problem.{Problem, concept_count, pairs, pair_count}
use Rattle.world_model.specs.Alive.{allowed, is_point, IsAlive, all_allow, point_at, lies_by}
use Rattle.world_model.specs.Trial.{points_by_trial}
use Rattle.world_model.proofs.Members.{all_from, place_of, IsPlaced}
use Rattle.bit_rows.specs.declared.words.Cells.{Cells}
use Rattle.bit_rows.specs.Rows.{SomePlace, BitRows, bit_in, in_cells, all_cells}
use Rattle.point_table.specs.Points.{AreAllowed}
use Rattle.point_table.specs.Table.{AreRowsOf}
use Rattle.point_frames.proofs.Frames.{in_all}
use Rattle.point_frames.specs.Frames.{is_occupied, IsAliveFrame, AreRegionsMet, IsOwing}
use Rattle.point_ladder.specs.Ladders.{IsFrame, PairsMet, ConceptsMet, bits_at}
use Rattle.point_ladder.proofs.Served.{holds_all, table_point, served_by_parts, alive_here}

-- what is owed for each number below one more
pub below_more : (F : ℕ → Type 0) (n : ℕ) → (((k : ℕ) → k < n → F k) × F n) ↔ ((k : ℕ) → k < n + 1 → F k)
below_more F n = (
  λ h k small. elim (cases_lt k n) [
    | inl before ↦ h.0 k before
    | inr here ↦ let same : n ≡ k = omega (arith, small, here) in subst F same h.1
  ],
  λ each. (λ k small. each k (omega (arith, small)), each n (omega arith)),
)

-- the regions of two sets, by what rows show
pub met_as : (words others : Regions) (l r f g some : ℕ → Bool) → words ≡ others → ((k : ℕ) → l k ≡ f k) → ((k : ℕ) → r k ≡ g k) → AreRegionsMet words l r some ↔ AreRegionsMet others f g some
met_as words others l r f g some same left right = (
  λ met region occupied.
      let at = met region (ap (λ ws. is_occupied ws region) same ∙ occupied) in
      record { place = at.place; passes = sym (alike region at.place) ∙ at.passes },
  λ met region occupied.
      let at = met region (ap (λ ws. is_occupied ws region) (sym same) ∙ occupied) in
      record { place = at.place; passes = alike region at.place ∙ at.passes },
)
  where
    alike : (region : Region) (k : ℕ) →
        (some k && lies_by region (l k) (r k)) ≡ (some k && lies_by region (f k) (g k))
    alike region k = ap (λ x. some k && lies_by region x (r k)) (left k) ∙ ap (λ x. some k && lies_by region (f k) x) (right k)

-- rows that owe the needs of a problem are its frame
pub first_is_frame : (p : Problem) (two frame : BitRows) → two.count ≡ 2 → two.width ≡ length (points_by_trial p) / 64 + 1 → ((k : ℕ) → bit_in two 0 k ≡ nat_lt k (length (points_by_trial p))) →
    ((k : ℕ) → bit_in two 1 k ≡ false) →
    IsOwing two frame (λ some. PairsMet p (points_by_trial p) (pair_count p) some × (p.switches.nonempty ≡ true → ConceptsMet (points_by_trial p) (concept_count p) some)) → IsFrame p (points_by_trial p) frame
first_is_frame p two frame counted wide full none o = record {
  width = o.width ∙ wide;
  mask = λ k. o.mask k ∙ full k ∙ all_points k;
  owes = λ some within.
      let both = o.owes some (λ k h. sym (o.mask k) ∙ within k h) in
      let parts = served_by_parts p (points_by_trial p) some in (
        λ s. parts.0 (both.0 s).1,
        λ s. both.1 (record { must = λ k h. absurd (true≢false (sym h ∙ none k)); open_rows = λ r low small. absurd (omega (arith, counted, low, small)) }, parts.1 s),
      );
}
  where
    all_points : (k : ℕ) → nat_lt k (length (points_by_trial p)) ≡ (nat_lt k (length (points_by_trial p)) && is_point p (point_at (points_by_trial p) k))
    all_points k = elim (cases_lt k (length (points_by_trial p))) [
      | inl small ↦ lt-ltb k (length (points_by_trial p)) small ∙ sym (and_from (nat_lt k (length (points_by_trial p))) (is_point p (point_at (points_by_trial p) k)) (lt-ltb k (length (points_by_trial p)) small) (table_point p k small))
      | inr large ↦ le-ltb k (length (points_by_trial p)) large ∙ ap (λ b. b && is_point p (point_at (points_by_trial p) k)) (sym (le-ltb k (length (points_by_trial p)) large))
    ]

-- each pair allows something where no set is empty
pub allow_by_sets : (p : Problem) (sets : List RelSet) → AreAllowed p sets → ((k : ℕ) → k < length sets → is_empty_set (get_or sets k no_rels) ≡ false) → all_allow p ≡ true
allow_by_sets p sets are each = all_from (λ pair. not (is_empty_set (allowed p pair))) (pairs p) (λ pair i.
    let placed : IsPlaced pair (pairs p) = place_of i in
    let counted = are.counted in
    ap (λ set. not (is_empty_set set)) (sym (are.each placed.place no_rels placed.within ∙ ap (allowed p) (placed.is (0, 0)))) ∙ ap not (each placed.place (omega (arith, counted, placed.within))))

-- whether a problem is alive, by its frame
pub alive_at_start : (p : Problem) (rows : BitRows) → all_allow p ≡ true → IsFrame p (points_by_trial p) rows → IsAliveFrame rows ↔ IsAlive p
alive_at_start p rows allow frame = alive_here p (points_by_trial p) rows allow (holds_all p) frame

-- a concept's row shows the bits that the points have of it
pub side_bits : (p : Problem) (rows : BitRows) (row : ℕ → Bool) (c other : ℕ) → AreRowsOf p rows → c < concept_count p → c ≡ other → ((k : ℕ) → row k ≡ bit_in rows c k) →
    (k : ℕ) → row k ≡ bits_at (points_by_trial p) other k
side_bits p rows row c other are small same shows k =
    let counted = are.counted in
    shows k ∙ are.shown.bits c k (omega (arith, counted, small)) ∙ ap (λ x. bits_at (points_by_trial p) x k) same

-- one concept more
pub concept_owed : (row bits some : ℕ → Bool) (cells : Cells) → cells ≡ all_cells → ((k : ℕ) → row k ≡ bits k) → SomePlace (λ k. (row k && row k && in_cells cells (row k) (row k)) && some k) ↔ SomePlace (λ k. some k && bits k)
concept_owed row bits some cells is shows = (
  λ at. record { place = at.place; passes = sym (same at.place) ∙ at.passes },
  λ at. record { place = at.place; passes = same at.place ∙ at.passes },
)
  where
    swap : (a s : Bool) → ((a && a && true) && s) ≡ (s && a)
    swap true true = refl
    swap true false = refl
    swap false true = refl
    swap false false = refl

    same : (k : ℕ) → ((row k && row k && in_cells cells (row k) (row k)) && some k) ≡ (some k && bits k)
    same k = ap (λ b. (row k && row k && b) && some k) (in_all cells (row k) (row k) is) ∙ swap (row k) (some k) ∙ ap (λ b. some k && b) (shows k)
