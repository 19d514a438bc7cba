-- The test of a point, pair by pair and sum by sum.
use Rattle.std.proofs.Common.{◌≡◌, ℕ, suc, ◌+◌, ◌<◌, ◌≤◌, Bool, true, false, ◌&&◌, ◌||◌, not, cond, List, [], ◌∷◌, ◌++◌, length, get_or, drop, inl, inr, refl, sym, ap, ◌∙◌, arith}
use Rattle.std.specs.Prelude.{Some, filter, filter_map, slice_get}
use Rattle.std.specs.List.{list_all, range_with_len, items_where_true}
use Rattle.std.proofs.lemmas.Bool.{cases_Bool, and_from, false≢true}
use Rattle.std.proofs.lemmas.List.{drop_more, drop_all}
use Rattle.std.proofs.lemmas.Option.{slice_get_within, get_or_from_slice_get}
use Rattle.std.proofs.lemmas.List.Elements.{filter-append}
use Rattle.rcc5_core.specs.declared.Regions.{Regions}
use Rattle.rcc5_core.specs.declared.Region.TheVariants.{LeftOnly, Both, RightOnly}
use Rattle.rcc5_core.specs.declared.Occupancy.TheVariants.{Empty}
use Rattle.rcc5_core.specs.Region.{word_at, same_word, forced_regions}
use Rattle.world_model.specs.declared.Articulation.{Articulation}
use Rattle.world_model.specs.declared.Articulation.TheVariants.{Pair, Sum}
use Rattle.world_model.specs.Problem.{Problem, pair_count, as_sum}
use Rattle.world_model.specs.Node.{pair_at}
use Rattle.world_model.specs.Alive.{allowed, forced_of, lies_in, avoids, point_sums}
use Rattle.world_model.proofs.Members.{all_at, In-filter, from_filter, In-get_or, In-range, from_range}
use Rattle.constraint_set.proofs.Lists.{range_more}
use Rattle.world_model.specs.Points.{forced_at, has_empty, empty_pairs, avoids_at, sum_holds, sums_from}

-- one pair more
pub pairs_more : (test : ℕ → Bool) (old new : List ℕ) (i : ℕ) → old ≡ filter test (range_with_len 0 i) → new ≡ old ++ cond (test i) (i ∷ []) [] → new ≡ filter test (range_with_len 0 (i + 1))
pairs_more test old new i so step =
    step ∙ ap (λ xs. xs ++ cond (test i) (i ∷ []) []) so ∙ sym (ap (filter test) (range_more i) ∙ filter-append test (range_with_len 0 i) (i ∷ []))

-- the pairs are in range
pub empty_in_range : (p : Problem) (k : ℕ) (d : ℕ) → k < length (empty_pairs p) → get_or (empty_pairs p) k d < pair_count p
empty_in_range p k d h =
    let i = In-get_or (empty_pairs p) k d h in
    let r = from_range 0 (pair_count p) (from_filter (λ pair. has_empty (forced_at p pair)) (range_with_len 0 (pair_count p)) i).0 in
    omega (arith, r.1)

-- a pair with no region that is forced empty is avoided
none_empty : (regions : Regions) (pair : ℕ × ℕ) (bits : List Bool) → has_empty regions ≡ false → avoids bits (pair, regions) ≡ true
none_empty regions pair bits h =
    avoided (same_word (word_at regions LeftOnly) Empty) (same_word (word_at regions Both) Empty) (same_word (word_at regions RightOnly) Empty) (lies_in LeftOnly pair bits) (lies_in Both pair bits) (lies_in RightOnly pair bits) h
  where
    avoided : (a b c x y z : Bool) → (a || (b || (c || false))) ≡ false → (not (a && x) && (not (b && y) && (not (c && z) && true))) ≡ true
    avoided true b c x y z h = absurd (false≢true (sym h))
    avoided false true c x y z h = absurd (false≢true (sym h))
    avoided false false true x y z h = absurd (false≢true (sym h))
    avoided false false false x y z h = refl

-- what avoids these pairs avoids all
pub avoids_each : (p : Problem) (bits : List Bool) → list_all (avoids_at p bits) (empty_pairs p) ≡ true → (k : ℕ) → k < pair_count p → avoids_at p bits k ≡ true
avoids_each p bits h k within = elim (cases_Bool (has_empty (forced_at p k))) [
  | inl some ↦ all_at (avoids_at p bits) h (In-filter (λ pair. has_empty (forced_at p pair)) (In-range 0 (pair_count p) k (omega arith) (omega arith)) some)
  | inr none ↦ none_empty (forced_at p k) (pair_at p k) bits none
]

pub forced_avoids : (p : Problem) (bits : List Bool) (ps : List (ℕ × ℕ)) → ((k : ℕ) → k < length ps → avoids bits (get_or ps k (0, 0), forced_regions (allowed p (get_or ps k (0, 0)))) ≡ true) →
    list_all (avoids bits) (forced_of p ps) ≡ true
forced_avoids p bits [] each = refl
forced_avoids p bits (pair ∷ rest) each =
    and_from (avoids bits (pair, forced_regions (allowed p pair))) (list_all (avoids bits) (forced_of p rest)) (each 0 (omega arith)) (forced_avoids p bits rest (λ k h. each (suc k) (omega arith)))

-- the sums from one index on
pub sums_got : (bits : List Bool) (p : Problem) (i : ℕ) (a : Articulation) → slice_get p.kept i ≡ Some true → slice_get p.articulations i ≡ Some a →
    sums_from bits p i ≡ (sum_holds bits a && sums_from bits p (i + 1))
sums_got bits p i a flag got =
    ap (λ fs. list_all (sum_holds bits) (items_where_true fs (drop i p.articulations))) (dropped p.kept i true flag) ∙
    ap (λ rest. list_all (sum_holds bits) (items_where_true (true ∷ drop (i + 1) p.kept) rest)) (dropped p.articulations i a got)
  where
    dropped : {X : Type 0} (xs : List X) (i : ℕ) (x : X) → slice_get xs i ≡ Some x → drop i xs ≡ x ∷ drop (i + 1) xs
    dropped xs i x h = drop_more xs i x (slice_get_within xs i x h) ∙ ap (λ y. y ∷ drop (i + 1) xs) (get_or_from_slice_get xs i x x h)

pub sums_skipped : (bits : List Bool) (p : Problem) (i : ℕ) → i < length p.articulations → slice_get p.kept i ≡ Some false → sums_from bits p i ≡ sums_from bits p (i + 1)
sums_skipped bits p i within flag =
    ap (λ fs. list_all (sum_holds bits) (items_where_true fs (drop i p.articulations))) (drop_more p.kept i false (slice_get_within p.kept i false flag) ∙ ap (λ y. y ∷ drop (i + 1) p.kept) (get_or_from_slice_get p.kept i false false flag)) ∙
    skip p.articulations within
  where
    skip : (said : List Articulation) → i < length said →
        list_all (sum_holds bits) (items_where_true (false ∷ drop (i + 1) p.kept) (drop i said)) ≡ list_all (sum_holds bits) (items_where_true (drop (i + 1) p.kept) (drop (i + 1) said))
    skip [] h = absurd (omega arith)
    skip (s ∷ said) h = ap (λ rest. list_all (sum_holds bits) (items_where_true (false ∷ drop (i + 1) p.kept) rest)) (drop_more (s ∷ said) i s h)

none_left : (flags : List Bool) → items_where_true {X = Articulation} flags [] ≡ []
none_left [] = refl
none_left (b ∷ bs) = refl

pub sums_done : (bits : List Bool) (p : Problem) (i : ℕ) → length p.articulations ≤ i → sums_from bits p i ≡ true
sums_done bits p i done =
    ap (λ said. list_all (sum_holds bits) (items_where_true (drop i p.kept) said)) (drop_all i p.articulations done) ∙ ap (list_all (sum_holds bits)) (none_left (drop i p.kept))

-- all of them are the kept sums
pub sums_all : (bits : List Bool) (said : List Articulation) → list_all (sum_holds bits) said ≡ list_all (point_sums bits) (filter_map as_sum said)
sums_all bits [] = refl
sums_all bits (Pair left right set ∷ said) = sums_all bits said
sums_all bits (Sum whole parts ∷ said) = ap (λ b. sum_holds bits (Sum whole parts) && b) (sums_all bits said)
