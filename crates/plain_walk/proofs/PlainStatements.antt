-- The kept sums, articulation by articulation.
use Rattle.std.proofs.Common.{◌≡◌, ℕ, ◌+◌, ◌<◌, ◌≤◌, Bool, true, false, ◌&&◌, List, [], ◌∷◌, drop, length, refl, ap, ◌∙◌, arith}
use Rattle.std.specs.Prelude.{Some, filter_map, slice_get}
use Rattle.std.specs.List.{list_all, items_where_true}
use Rattle.std.proofs.lemmas.List.{drop_more, drop_all}
use Rattle.std.proofs.lemmas.Option.{slice_get_within, get_or_from_slice_get}
use Rattle.world_model.specs.declared.Articulation.{Articulation}
use Rattle.world_model.specs.declared.Articulation.TheVariants.{Pair, Sum}
use Rattle.world_model.specs.Problem.{Problem, as_sum}
use Rattle.world_model.specs.Alive.{point_sums}
use Rattle.plain_walk.specs.Plain.{sum_at, sums_from}

dropped : {X : Type 0} (xs : List X) (i : ℕ) (x : X) → slice_get xs i ≡ Some x → drop i xs ≡ x ∷ drop (i + 1) xs
dropped xs i x h = drop_more xs i x (slice_get_within xs i x h) ∙ ap (λ y. y ∷ drop (i + 1) xs) (get_or_from_slice_get xs i x x h)

-- the sums from one place on, where the articulation there is kept
pub sums_got : (bits : List Bool) (p : Problem) (i : ℕ) (a : Articulation) → slice_get p.kept i ≡ Some true → slice_get p.articulations i ≡ Some a →
    sums_from bits p i ≡ (sum_at bits a && sums_from bits p (i + 1))
sums_got bits p i a flag got =
    ap (λ fs. list_all (sum_at bits) (items_where_true fs (drop i p.articulations))) (dropped p.kept i true flag) ∙
    ap (λ rest. list_all (sum_at bits) (items_where_true (true ∷ drop (i + 1) p.kept) rest)) (dropped p.articulations i a got)

-- where it is left out
pub sums_skipped : (bits : List Bool) (p : Problem) (i : ℕ) → i < length p.articulations → slice_get p.kept i ≡ Some false → sums_from bits p i ≡ sums_from bits p (i + 1)
sums_skipped bits p i within flag =
    ap (λ fs. list_all (sum_at bits) (items_where_true fs (drop i p.articulations))) (dropped p.kept i false flag) ∙
    skip p.articulations within
  where
    skip : (said : List Articulation) → i < length said →
        list_all (sum_at bits) (items_where_true (false ∷ drop (i + 1) p.kept) (drop i said)) ≡ list_all (sum_at bits) (items_where_true (drop (i + 1) p.kept) (drop (i + 1) said))
    skip [] h = absurd (omega arith)
    skip (s ∷ said) h = ap (λ rest. list_all (sum_at bits) (items_where_true (false ∷ drop (i + 1) p.kept) rest)) (drop_more (s ∷ said) i s h)

none_left : (flags : List Bool) → items_where_true {X = Articulation} flags [] ≡ []
none_left [] = refl
none_left (b ∷ bs) = refl

-- none is left at the end
pub sums_done : (bits : List Bool) (p : Problem) (i : ℕ) → length p.articulations ≤ i → sums_from bits p i ≡ true
sums_done bits p i done =
    ap (λ said. list_all (sum_at bits) (items_where_true (drop i p.kept) said)) (drop_all i p.articulations done) ∙ ap (list_all (sum_at bits)) (none_left (drop i p.kept))

-- all of them are the kept sums
pub sums_all : (bits : List Bool) (said : List Articulation) → list_all (sum_at bits) said ≡ list_all (point_sums bits) (filter_map as_sum said)
sums_all bits [] = refl
sums_all bits (Pair left right set ∷ said) = sums_all bits said
sums_all bits (Sum whole parts ∷ said) = ap (λ b. point_sums bits (record { whole = whole; parts = parts }) && b) (sums_all bits said)
