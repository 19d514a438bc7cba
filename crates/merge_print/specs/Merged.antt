-- The merged taxonomy of a table: classes of equal concepts, which class is under which, and what splits two concepts.
use Rattle.std.specs.Prelude.{ℕ, ◌+◌, ◌==◌, nat_lt, Bool, false, not, ◌&&◌, List, [], map, filter, flat_map, find, unwrap_or, length, slice_index, slice_index_or, if◌then◌else◌}
use Rattle.std.specs.List.{list_any, range_with_len, position_or_len}
use Rattle.rcc5_core.specs.declared.Rel.{Rel}
use Rattle.rcc5_core.specs.declared.Rel.TheVariants.{Equals, IncludedIn, Overlaps, Disjoint}
use Rattle.rcc5_core.specs.Relation.{same_rel, converse_of}
use Rattle.world_model.specs.Problem.{Problem, concepts, pairs, cross_pairs}
use Rattle.merge_print.specs.declared.taxonomy.MergedTaxonomy.{MergedTaxonomy}

-- whether a pair is that of these two
abbrev pub is_pair : ℕ → ℕ → ℕ × ℕ → Bool
is_pair x y pair = (pair.0 == x) && (pair.1 == y)

-- what a table has for the pair of two concepts, the lower number first
unfoldable pub pair_relation : Problem → List Rel → ℕ → ℕ → Rel
pair_relation p table x y = slice_index_or table (position_or_len (is_pair x y) (pairs p)) Disjoint

-- the relation of two concepts by a table: a concept equals itself
unfoldable pub relation_between : Problem → List Rel → ℕ → ℕ → Rel
relation_between p table x y =
    if x == y then Equals else (if nat_lt x y then pair_relation p table x y else converse_of (pair_relation p table y x))

-- whether the first concept equals the second, is included in it, or overlaps it
abbrev pub are_equal : Problem → List Rel → ℕ → ℕ → Bool
are_equal p table x y = same_rel (relation_between p table x y) Equals

abbrev pub is_within : Problem → List Rel → ℕ → ℕ → Bool
is_within p table x y = same_rel (relation_between p table x y) IncludedIn

abbrev pub do_overlap : Problem → List Rel → ℕ × ℕ → Bool
do_overlap p table pair = same_rel (relation_between p table pair.0 pair.1) Overlaps

-- a concept's leader: the least concept that is it or equal to it
abbrev pub leader_of : Problem → List Rel → ℕ → ℕ
leader_of p table c = unwrap_or (find (λ d. are_equal p table d c) (concepts p)) c

-- the leader of each concept
abbrev pub leaders_of : Problem → List Rel → List ℕ
leaders_of p table = map (leader_of p table) (concepts p)

-- the leaders of classes, ascending: the numbers that lead some concept, by the list of each concept's leader
abbrev pub heads_of : List ℕ → List ℕ
heads_of leaders = filter (λ l. list_any (λ k. k == l) leaders) (range_with_len 0 (length leaders))

-- the class of a leader: the concepts that it leads, ascending
abbrev pub class_of : List ℕ → ℕ → List ℕ
class_of leaders l = filter (λ c. slice_index leaders c == l) (range_with_len 0 (length leaders))

-- whether one class is below another, both by their places among the leaders of classes
abbrev pub is_below : Problem → List Rel → List ℕ → ℕ → ℕ → Bool
is_below p table heads c q = is_within p table (slice_index heads c) (slice_index heads q)

-- the places of the classes that a class is below
abbrev pub all_above : (ℕ → ℕ → Bool) → ℕ → ℕ → List ℕ
all_above below n c = filter (below c) (range_with_len 0 n)

-- the places of the classes that a class is under: it is below them, and no class lies between
abbrev pub just_above : (ℕ → ℕ → Bool) → ℕ → ℕ → List ℕ
just_above below n c = filter (λ q. not (list_any (λ m. below m q) (all_above below n c))) (all_above below n c)

-- the numbers, from 1, of each class and of each that it is under, by the first and then the second
abbrev pub under_of : (ℕ → ℕ → Bool) → ℕ → List (ℕ × ℕ)
under_of below n = flat_map (λ c. map (λ q. (c + 1, q + 1)) (just_above below n c)) (range_with_len 0 n)

-- whether the row of one class says that it is below another, both by their places
abbrev pub row_has : List (List Bool) → ℕ → ℕ → Bool
row_has rows c q = slice_index_or (slice_index_or rows c []) q false

-- the merged taxonomy. A split is a pair across taxonomies that overlaps
abbrev pub merged_of : Problem → List Rel → MergedTaxonomy
merged_of p table = record {
  classes = map (class_of (leaders_of p table)) (heads_of (leaders_of p table));
  under = under_of (is_below p table (heads_of (leaders_of p table))) (length (heads_of (leaders_of p table)));
  splits = filter (do_overlap p table) (cross_pairs p);
}
