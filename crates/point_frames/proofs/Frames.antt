-- Rows of which some places have to stay: when places satisfy them, and what is added to them or taken away.
use Rattle.std.proofs.Common.{◌≡◌, ℕ, ◌<◌, ◌≤◌, ◌↔◌, Bool, true, false, ◌&&◌, not, inl, inr, refl, sym, ap, ◌∙◌}
use Rattle.std.specs.Prelude.{IsTrue}
use Rattle.std.proofs.lemmas.Bool.{and_from, and_parts, true≢false, false≢true, cases_Bool}
use Rattle.rcc5_core.specs.declared.Region.{Region}
use Rattle.rcc5_core.specs.declared.Regions.{Regions}
use Rattle.rcc5_core.specs.declared.Region.TheVariants.{LeftOnly, Both, RightOnly}
use Rattle.rcc5_core.specs.declared.Occupancy.{Occupancy}
use Rattle.rcc5_core.specs.declared.Occupancy.TheVariants.{Empty, Occupied, Free}
use Rattle.rcc5_core.specs.Region.{word_at, same_word, all_regions}
use Rattle.world_model.proofs.Members.{all_at, all_from}
use Rattle.world_model.proofs.PointSets.{In-all_regions}
use Rattle.bit_rows.specs.declared.words.Cells.{Cells}
use Rattle.bit_rows.specs.Rows.{SomePlace, BitRows, bit_in, in_cells, all_cells, other_cells}
use Rattle.world_model.specs.Alive.{lies_by, avoids_by}
use Rattle.point_frames.specs.Frames.{is_occupied, AreWithin, Satisfies, AreRegionsMet, left_at, cell_of, AreSeen, HasEmpty}

-- a place of one row is one of another
pub some_alike : (f g : ℕ → Bool) → ((k : ℕ) → f k ≡ true → g k ≡ true) → SomePlace f → SomePlace g
some_alike f g to some = record { place = some.place; passes = to some.place some.passes }

-- a place that passes a test of a row passes it by another that shows the row
pub some_as : (g : Bool → ℕ → Bool) (a b : ℕ → Bool) → ((k : ℕ) → a k ≡ b k) → SomePlace (λ k. g (a k) k) ↔ SomePlace (λ k. g (b k) k)
some_as g a b same = (
  λ some. record { place = some.place; passes = ap (λ x. g x some.place) (sym (same some.place)) ∙ some.passes },
  λ some. record { place = some.place; passes = ap (λ x. g x some.place) (same some.place) ∙ some.passes },
)

pub three_parts : (a b c : Bool) → (a && b && c) ≡ true → (a ≡ true) × (b ≡ true) × (c ≡ true)
three_parts true true true h = (refl, refl, refl)
three_parts true true false h = absurd (false≢true h)
three_parts true false c h = absurd (false≢true h)
three_parts false b c h = absurd (false≢true h)

pub three_from : (a b c : Bool) → a ≡ true → b ≡ true → c ≡ true → (a && b && c) ≡ true
three_from a b c ha hb hc = and_from (a && b) c (and_from a b ha hb) hc

-- a place lies in one region
one_region : (region other : Region) (a b : Bool) → lies_by region a b ≡ true → lies_by other a b ≡ true → other ≡ region
one_region LeftOnly LeftOnly a b h e = refl
one_region Both Both a b h e = refl
one_region RightOnly RightOnly a b h e = refl
one_region LeftOnly Both true true h e = absurd (false≢true h)
one_region LeftOnly Both true false h e = absurd (false≢true e)
one_region LeftOnly Both false b h e = absurd (false≢true h)
one_region LeftOnly RightOnly true b h e = absurd (false≢true e)
one_region LeftOnly RightOnly false b h e = absurd (false≢true h)
one_region Both LeftOnly true true h e = absurd (false≢true e)
one_region Both LeftOnly true false h e = absurd (false≢true h)
one_region Both LeftOnly false b h e = absurd (false≢true h)
one_region Both RightOnly true b h e = absurd (false≢true e)
one_region Both RightOnly false b h e = absurd (false≢true h)
one_region RightOnly LeftOnly true b h e = absurd (false≢true h)
one_region RightOnly LeftOnly false b h e = absurd (false≢true e)
one_region RightOnly Both true b h e = absurd (false≢true h)
one_region RightOnly Both false b h e = absurd (false≢true e)

-- what lies in a region that is occupied may be there
occupied_left : (words : Regions) (region : Region) (a b : Bool) → is_occupied words region ≡ true → lies_by region a b ≡ true → avoids_by words a b ≡ true
occupied_left words region a b occupied lies =
    all_from (λ other. not (same_word (word_at words other) Empty && lies_by other a b)) all_regions
    (λ other i. out (same_word (word_at words other) Empty) (lies_by other a b) (λ there. full (word_at words other) (ap (is_occupied words) (one_region region other a b lies there) ∙ occupied)))
  where
    full : (word : Occupancy) → same_word word Occupied ≡ true → same_word word Empty ≡ false
    full Occupied h = refl
    full Empty h = absurd (false≢true h)
    full Free h = absurd (false≢true h)

    out : (a b : Bool) → (b ≡ true → a ≡ false) → not (a && b) ≡ true
    out true true h = absurd (false≢true (sym (h refl)))
    out true false h = refl
    out false b h = refl

-- the other cells
pub others_not : (cells : Cells) (a b : Bool) → in_cells (other_cells cells) a b ≡ not (in_cells cells a b)
others_not cells true true = refl
others_not cells true false = refl
others_not cells false true = refl
others_not cells false false = refl

-- cells are those that words leave
abbrev pub AreKept : Cells → Regions → Type 0
AreKept kept words = (a b : Bool) → in_cells kept a b ≡ avoids_by words a b

-- what words say of two sets loses none of some places
abbrev pub LosesNone : (ℕ → Bool) → (ℕ → Bool) → Regions → (ℕ → Bool) → Type 0
LosesNone l r words f = (k : ℕ) → f k ≡ true → avoids_by words (l k) (r k) ≡ true

-- whether words lose places of a row, by a test of the cells that it does not leave
pub none_lost : (l r : ℕ → Bool) (words : Regions) (row f : ℕ → Bool) (kept lost : Cells) (met : Bool) → AreKept kept words → lost ≡ other_cells kept → ((k : ℕ) → row k ≡ f k) →
    (IsTrue met ↔ SomePlace (λ k. row k && row k && in_cells lost (l k) (r k))) → met ≡ false → LosesNone l r words f
none_lost l r words row f kept lost met are is shows tells missed k h = elim (cases_Bool (avoids_by words (l k) (r k))) [
  | inl there ↦ there
  | inr out ↦
      let there : row k ≡ true = shows k ∙ h in
      let in_lost : in_cells lost (l k) (r k) ≡ true = ap (λ cells. in_cells cells (l k) (r k)) is ∙ others_not kept (l k) (r k) ∙ ap not (are (l k) (r k) ∙ out) in
      absurd (true≢false (sym (tells.1 (record { place = k; passes = three_from (row k) (row k) (in_cells lost (l k) (r k)) there there in_lost })) ∙ missed))
]

-- places in the occupied regions are left
pub met_left : (rows : BitRows) (l r : ℕ → Bool) (words : Regions) → AreRegionsMet words l r (bit_in rows 0) → AreRegionsMet words l r (left_at rows l r words)
met_left rows l r words met region occupied =
    let some = met region occupied in
    let k = some.place in
    let parts = and_parts (bit_in rows 0 k) (lies_by region (l k) (r k)) some.passes in
    record {
      place = k;
      passes = and_from (left_at rows l r words k) (lies_by region (l k) (r k)) (and_from (bit_in rows 0 k) (avoids_by words (l k) (r k)) parts.0 (occupied_left words region (l k) (r k) occupied parts.1)) parts.1;
    }

pub met_mask : (words : Regions) (l r f g : ℕ → Bool) → AreWithin f g → AreRegionsMet words l r f → AreRegionsMet words l r g
met_mask words l r f g within met region occupied =
    some_alike (λ k. f k && lies_by region (l k) (r k)) (λ k. g k && lies_by region (l k) (r k))
    (λ k h. let parts = and_parts (f k) (lies_by region (l k) (r k)) h in and_from (g k) (lies_by region (l k) (r k)) (within k parts.0) parts.1) (met region occupied)

pub left_within : (rows : BitRows) (l r : ℕ → Bool) (words : Regions) → AreWithin (left_at rows l r words) (bit_in rows 0)
left_within rows l r words k h = (and_parts (bit_in rows 0 k) (avoids_by words (l k) (r k)) h).0

-- three regions
pub met_by_three : (words : Regions) (l r f : ℕ → Bool) → (is_occupied words LeftOnly ≡ true → SomePlace (λ k. f k && lies_by LeftOnly (l k) (r k))) → (is_occupied words Both ≡ true → SomePlace (λ k. f k && lies_by Both (l k) (r k))) →
    (is_occupied words RightOnly ≡ true → SomePlace (λ k. f k && lies_by RightOnly (l k) (r k))) → AreRegionsMet words l r f
met_by_three words l r f a b c LeftOnly = a
met_by_three words l r f a b c Both = b
met_by_three words l r f a b c RightOnly = c

-- more places satisfy what fewer do
pub satisfies_more : (rows : BitRows) (n : ℕ) (f g : ℕ → Bool) → AreWithin f g → Satisfies rows n f → Satisfies rows n g
satisfies_more rows n f g within s = record {
  must = λ k h. within k (s.must k h);
  open_rows = λ r low small. some_alike (λ k. bit_in rows r k && f k) (λ k. bit_in rows r k && g k)
      (λ k h. let parts = and_parts (bit_in rows r k) (f k) h in and_from (bit_in rows r k) (g k) parts.0 (within k parts.1)) (s.open_rows r low small);
}

-- what is left satisfies the rows where none that has to stay is lost and each open row has one
pub left_satisfies : (rows : BitRows) (l r : ℕ → Bool) (words : Regions) (kept : Cells) → AreKept kept words → Satisfies rows rows.count (bit_in rows 0) → LosesNone l r words (bit_in rows 1) →
    ((q : ℕ) → 2 ≤ q → q < rows.count → SomePlace (λ k. bit_in rows q k && bit_in rows 0 k && in_cells kept (l k) (r k))) → Satisfies rows rows.count (left_at rows l r words)
left_satisfies rows l r words kept are s none each = record {
  must = λ k h. and_from (bit_in rows 0 k) (avoids_by words (l k) (r k)) (s.must k h) (none k h);
  open_rows = λ q low small.
      let some = each q low small in
      let k = some.place in
      let parts = three_parts (bit_in rows q k) (bit_in rows 0 k) (in_cells kept (l k) (r k)) some.passes in
      record {
        place = k;
        passes = and_from (bit_in rows q k) (left_at rows l r words k) parts.0 (and_from (bit_in rows 0 k) (avoids_by words (l k) (r k)) parts.1 (sym (are (l k) (r k)) ∙ parts.2));
      };
}

pub left_open : (rows : BitRows) (l r : ℕ → Bool) (words : Regions) (kept : Cells) → AreKept kept words → Satisfies rows rows.count (left_at rows l r words) →
    (q : ℕ) → 2 ≤ q → q < rows.count → SomePlace (λ k. bit_in rows q k && bit_in rows 0 k && in_cells kept (l k) (r k))
left_open rows l r words kept are s q low small =
    let some = s.open_rows q low small in
    let k = some.place in
    let parts = and_parts (bit_in rows q k) (left_at rows l r words k) some.passes in
    let both = and_parts (bit_in rows 0 k) (avoids_by words (l k) (r k)) parts.1 in
    record { place = k; passes = three_from (bit_in rows q k) (bit_in rows 0 k) (in_cells kept (l k) (r k)) parts.0 both.0 (are (l k) (r k) ∙ both.1) }

pub must_left : (rows : BitRows) (l r : ℕ → Bool) (words : Regions) → Satisfies rows rows.count (left_at rows l r words) → LosesNone l r words (bit_in rows 1)
must_left rows l r words s k h = (and_parts (bit_in rows 0 k) (avoids_by words (l k) (r k)) (s.must k h)).1

-- a row is met where it has a place that has to stay, or all of a row that is met
pub needless_by_must : (rows : BitRows) (last : ℕ) (some : ℕ → Bool) → SomePlace (λ k. bit_in rows 1 k && bit_in rows last k) → Satisfies rows last some → SomePlace (λ k. bit_in rows last k && some k)
needless_by_must rows last some common s =
    let k = common.place in
    let parts = and_parts (bit_in rows 1 k) (bit_in rows last k) common.passes in
    record { place = k; passes = and_from (bit_in rows last k) (some k) parts.1 (s.must k parts.0) }

pub needless_by_other : (rows : BitRows) (last other : ℕ) (some : ℕ → Bool) → 2 ≤ other → other < last → ((k : ℕ) → bit_in rows other k ≡ true → bit_in rows last k ≡ true) → Satisfies rows last some →
    SomePlace (λ k. bit_in rows last k && some k)
needless_by_other rows last other some low small inside s =
    some_alike (λ k. bit_in rows other k && some k) (λ k. bit_in rows last k && some k)
    (λ k h. let parts = and_parts (bit_in rows other k) (some k) h in and_from (bit_in rows last k) (some k) (inside k parts.0) parts.1) (s.open_rows other low small)

pub not_met : (met : Bool) → met ≡ false → IsTrue met → ⊥
not_met met off on = true≢false (sym on ∙ off)

pub left_all : (rows : BitRows) (l r : ℕ → Bool) (words : Regions) → LosesNone l r words (bit_in rows 0) → AreWithin (bit_in rows 0) (left_at rows l r words)
left_all rows l r words none k h = and_from (bit_in rows 0 k) (avoids_by words (l k) (r k)) h (none k h)

pub in_all : (cells : Cells) (a b : Bool) → cells ≡ all_cells → in_cells cells a b ≡ true
in_all cells a b is = ap (λ x. in_cells x a b) is ∙ each a b
  where
    each : (a b : Bool) → in_cells all_cells a b ≡ true
    each true true = refl
    each true false = refl
    each false true = refl
    each false false = refl

-- rows that have a place that is left, in any cells
pub all_open : (rows : BitRows) (sides : ℕ → Bool) (cells : Cells) → cells ≡ all_cells →
    ((q : ℕ) → 2 ≤ q → q < rows.count → SomePlace (λ k. bit_in rows q k && bit_in rows 0 k && in_cells cells (sides k) (sides k))) →
    (q : ℕ) → 2 ≤ q → q < rows.count → SomePlace (λ k. bit_in rows q k && bit_in rows 0 k)
all_open rows sides cells is each q low small =
    some_alike (λ k. bit_in rows q k && bit_in rows 0 k && in_cells cells (sides k) (sides k)) (λ k. bit_in rows q k && bit_in rows 0 k)
    (λ k h. (and_parts (bit_in rows q k && bit_in rows 0 k) (in_cells cells (sides k) (sides k)) h).0) (each q low small)

pub open_all : (rows : BitRows) (sides : ℕ → Bool) (cells : Cells) → cells ≡ all_cells →
    ((q : ℕ) → 2 ≤ q → q < rows.count → SomePlace (λ k. bit_in rows q k && bit_in rows 0 k)) →
    (q : ℕ) → 2 ≤ q → q < rows.count → SomePlace (λ k. bit_in rows q k && bit_in rows 0 k && in_cells cells (sides k) (sides k))
open_all rows sides cells is each q low small =
    some_alike (λ k. bit_in rows q k && bit_in rows 0 k) (λ k. bit_in rows q k && bit_in rows 0 k && in_cells cells (sides k) (sides k))
    (λ k h. and_from (bit_in rows q k && bit_in rows 0 k) (in_cells cells (sides k) (sides k)) h (in_all cells (sides k) (sides k) is)) (each q low small)

-- regions that are occupied, by the cells in which places lie
pub met_by_cells : (words : Regions) (row l r : ℕ → Bool) (cells : Cells) → AreSeen row l r cells → ((region : Region) → is_occupied words region ≡ true → cell_of cells region ≡ true) ↔ AreRegionsMet words l r row
met_by_cells words row l r cells are = (
  λ each region occupied. (are region).0 (each region occupied),
  λ met region occupied. (are region).1 (met region occupied),
)

-- words lose a place of a row just where the cell of a region that is empty has one
pub none_empty : (words : Regions) (row l r : ℕ → Bool) (cells : Cells) → AreSeen row l r cells → (HasEmpty words cells → ⊥) → LosesNone l r words row
none_empty words row l r cells are none k h = all_from (λ region. not (same_word (word_at words region) Empty && lies_by region (l k) (r k))) all_regions
    (λ region i. apart (same_word (word_at words region) Empty) (lies_by region (l k) (r k)) (λ empty lies.
    none (record { region = region; empty = empty; there = (are region).1 (record { place = k; passes = and_from (row k) (lies_by region (l k) (r k)) h lies }) })))
  where
    apart : (a b : Bool) → (a ≡ true → b ≡ true → ⊥) → not (a && b) ≡ true
    apart true true h = absurd (h refl refl)
    apart true false h = refl
    apart false b h = refl

pub some_empty : (words : Regions) (row l r : ℕ → Bool) (cells : Cells) → AreSeen row l r cells → HasEmpty words cells → LosesNone l r words row → ⊥
some_empty words row l r cells are h none =
    let some = (are h.region).0 h.there in
    let k = some.place in
    let parts = and_parts (row k) (lies_by h.region (l k) (r k)) some.passes in
    let left = all_at (λ region. not (same_word (word_at words region) Empty && lies_by region (l k) (r k))) (none k parts.0) (In-all_regions h.region) in
    both (same_word (word_at words h.region) Empty) (lies_by h.region (l k) (r k)) h.empty parts.1 left
  where
    both : (a b : Bool) → a ≡ true → b ≡ true → not (a && b) ≡ true → ⊥
    both true true ha hb h = false≢true h
    both true false ha hb h = false≢true hb
    both false b ha hb h = false≢true ha

-- rows that show others have their cells
pub seen_as : (row other l r : ℕ → Bool) (cells : Cells) → ((k : ℕ) → row k ≡ other k) → AreSeen row l r cells → AreSeen other l r cells
seen_as row other l r cells same are region = (
  λ h. let some = (are region).0 h in record { place = some.place; passes = ap (λ x. x && lies_by region (l some.place) (r some.place)) (sym (same some.place)) ∙ some.passes },
  λ some. (are region).1 (record { place = some.place; passes = ap (λ x. x && lies_by region (l some.place) (r some.place)) (same some.place) ∙ some.passes }),
)

-- a cell that was met
pub cell_seen : (row l r : ℕ → Bool) (region : Region) (cells : Cells) (met : Bool) → ((a b : Bool) → in_cells cells a b ≡ lies_by region a b) → (IsTrue met ↔ SomePlace (λ k. row k && row k && in_cells cells (l k) (r k))) →
    IsTrue met ↔ SomePlace (λ k. row k && lies_by region (l k) (r k))
cell_seen row l r region cells met are tells = (
  λ h. let some = tells.0 h in record { place = some.place; passes = sym (same some.place) ∙ some.passes },
  λ some. tells.1 (record { place = some.place; passes = same some.place ∙ some.passes }),
)
  where
    twice : (a b : Bool) → ((a && a) && b) ≡ (a && b)
    twice true b = refl
    twice false b = refl

    same : (k : ℕ) → ((row k && row k) && in_cells cells (l k) (r k)) ≡ (row k && lies_by region (l k) (r k))
    same k = ap (λ b. (row k && row k) && b) (are (l k) (r k)) ∙ twice (row k) (lies_by region (l k) (r k))

pub seen_by_three : (row l r : ℕ → Bool) (a b c : Bool) → (IsTrue a ↔ SomePlace (λ k. row k && lies_by LeftOnly (l k) (r k))) → (IsTrue b ↔ SomePlace (λ k. row k && lies_by Both (l k) (r k))) →
    (IsTrue c ↔ SomePlace (λ k. row k && lies_by RightOnly (l k) (r k))) → AreSeen row l r (record { left_only = a; both = b; right_only = c; neither = true })
seen_by_three row l r a b c one two three LeftOnly = one
seen_by_three row l r a b c one two three Both = two
seen_by_three row l r a b c one two three RightOnly = three

pub three_regions : (P : Region → Type 0) → P LeftOnly → P Both → P RightOnly → (region : Region) → P region
three_regions P a b c LeftOnly = a
three_regions P a b c Both = b
three_regions P a b c RightOnly = c
