-- Which points are struck out by rows of bits.
use Rattle.std.proofs.Common.{◌≡◌, ℕ, ◌<◌, Bool, true, false, not, ◌&&◌, List, inl, inr, refl, sym, ap, ◌∙◌, subst, arith}
use Rattle.std.specs.Prelude.{IsTrue}
use Rattle.std.specs.List.{list_all}
use Rattle.std.proofs.lemmas.Bool.{cases_Bool, cases_eq, and_from, true≢false}
use Rattle.bit_rows.specs.Rows.{has_bit}
use Rattle.rcc5_core.specs.Region.{word_at, same_word}
use Rattle.rcc5_core.specs.declared.Occupancy.{Occupancy}
use Rattle.rcc5_core.specs.declared.Occupancy.TheVariants.{Empty, Occupied, Free}
use Rattle.rcc5_core.specs.declared.Region.{Region}
use Rattle.rcc5_core.specs.declared.Region.TheVariants.{LeftOnly, Both, RightOnly}
use Rattle.rcc5_core.specs.declared.Regions.{Regions}
use Rattle.point_encode.specs.Model.Forced.{region_with}
use Rattle.world_model.specs.Problem.{Problem, pairs, pair_count, kept_sums}
use Rattle.world_model.specs.Node.{pair_at}
use Rattle.world_model.specs.Alive.{forced_pairs, bit_of, avoids, avoids_by, lies_by, point_sums, is_point, point_at, meets_trees}
use Rattle.constraint_set.proofs.PointTests.{forced_avoids}
use Rattle.world_model.specs.Points.{forced_at, avoids_at}
use Rattle.point_table.specs.Places.Places.{PlaceState, IsStruck}
use Rattle.point_pool.specs.Pools.{AllAvoid, CellAvoids, IsFewer}

-- bits that meet the trees, the sums and the pairs are a point
pub start_point : (p : Problem) (bits : List Bool) → meets_trees p bits ≡ true → list_all (point_sums bits) (kept_sums p) ≡ true → ((k : ℕ) → k < pair_count p → avoids_at p bits k ≡ true) → is_point p bits ≡ true
start_point p bits trees sums apart =
    and_from (meets_trees p bits && list_all (point_sums bits) (kept_sums p)) (list_all (avoids bits) (forced_pairs p)) (and_from (meets_trees p bits) (list_all (point_sums bits) (kept_sums p)) trees sums)
    (forced_avoids p bits (pairs p) apart)

-- no region that is forced empty has a point, if each of the three has not
one_region : (o : Occupancy) (lies : Bool) → (o ≡ Empty → lies ≡ false) → not (same_word o Empty && lies) ≡ true
one_region Empty lies h = ap not (h refl)
one_region Occupied lies h = refl
one_region Free lies h = refl

pub avoids_parts : (regions : Regions) (l r : Bool) → ((part : ℕ) → part < 3 → word_at regions (region_with part) ≡ Empty → lies_by (region_with part) l r ≡ false) → avoids_by regions l r ≡ true
avoids_parts regions l r each =
    and_from _ _ (one_region regions.left_only (lies_by LeftOnly l r) (each 0 (omega arith)))
    (and_from _ _ (one_region regions.both (lies_by Both l r) (each 1 (omega arith))) (and_from _ true (one_region regions.right_only (lies_by RightOnly l r) (each 2 (omega arith))) refl))

lies_none : (region : Region) → lies_by region false false ≡ false
lies_none LeftOnly = refl
lies_none Both = refl
lies_none RightOnly = refl

-- by three cells of two concepts
pub cells_avoid : (s : PlaceState) (pair : ℕ × ℕ) (regions : Regions) → CellAvoids s regions (pair.0, true) (pair.1, true) → CellAvoids s regions (pair.0, true) (pair.1, false) →
    CellAvoids s regions (pair.0, false) (pair.1, true) → AllAvoid s pair regions
cells_avoid s pair regions both left right place on = elim (cases_Bool l) [
  | inl has ↦ elim (cases_Bool r) [
    | inl also ↦ ap (λ b. avoids_by regions b r) has ∙ ap (λ b. avoids_by regions true b) also ∙ both place on has also
    | inr lacks ↦ ap (λ b. avoids_by regions b r) has ∙ ap (λ b. avoids_by regions true b) lacks ∙ left place on has lacks
  ]
  | inr lacks ↦ elim (cases_Bool r) [
    | inl has ↦ ap (λ b. avoids_by regions b r) lacks ∙ ap (λ b. avoids_by regions false b) has ∙ right place on lacks has
    | inr also ↦ ap (λ b. avoids_by regions b r) lacks ∙ ap (λ b. avoids_by regions false b) also ∙ avoids_parts regions false false (λ part small e. lies_none (region_with part))
  ]
]
  where
    l : Bool
    l = bit_of (point_at s.points place) pair.0

    r : Bool
    r = bit_of (point_at s.points place) pair.1

-- what holds of the live points holds of fewer
pub cell_stays : (old new : PlaceState) (regions : Regions) (one other : ℕ × Bool) → IsFewer old new → CellAvoids old regions one other → CellAvoids new regions one other
cell_stays old new regions one other fewer h place on first second =
    h place (fewer.live place on) (subst (λ ps. bit_of (point_at ps place) one.0 ≡ one.1) fewer.points first) (subst (λ ps. bit_of (point_at ps place) other.0 ≡ other.1) fewer.points second)

pub all_stay : (old new : PlaceState) (pair : ℕ × ℕ) (regions : Regions) → IsFewer old new → AllAvoid old pair regions → AllAvoid new pair regions
all_stay old new pair regions fewer h place on =
    subst (λ ps. IsTrue (avoids_by regions (bit_of (point_at ps place) pair.0) (bit_of (point_at ps place) pair.1))) (sym fewer.points) (h place (fewer.live place on))

pub fewer_chain : (first old new : PlaceState) → IsFewer first old → IsFewer old new → IsFewer first new
fewer_chain first old new one other = record {
  concepts = other.concepts ∙ one.concepts;
  points = other.points ∙ one.points;
  live = λ place on. one.live place (other.live place on);
}

-- one point less
pub fewer_struck : (old new : PlaceState) (place : ℕ) → IsStruck old new place → IsFewer old new
fewer_struck old new place struck = record {
  concepts = struck.concepts;
  points = struck.points;
  live = λ k on. elim (cases_eq k place) [
    | inl same ↦ absurd (true≢false (sym on ∙ ap (has_bit new.live) same ∙ struck.live.here))
    | inr apart ↦ sym (struck.live.others k apart) ∙ on
  ];
}

-- whether a point is in no region of a pair, by its two bits
pub avoided_pair : (p : Problem) (bits : List Bool) (k : ℕ) (regions : Regions) (pair : ℕ × ℕ) (left right result : Bool) → result ≡ avoids_by regions left right → regions ≡ forced_at p k →
    pair ≡ pair_at p k → left ≡ bit_of bits pair.0 → right ≡ bit_of bits pair.1 → result ≡ avoids_at p bits k
avoided_pair p bits k regions pair left right result is words at one other =
    is ∙ ap (λ l. avoids_by regions l right) one ∙ ap (λ r. avoids_by regions (bit_of bits pair.0) r) other ∙
    ap (λ q. avoids bits (q, regions)) at ∙ ap (λ ws. avoids bits (pair_at p k, ws)) words
