-- What each kind of watcher reports of a problem after a list of worlds, which are given by their tables.
use Rattle.std.specs.Prelude.{ℕ, Bool, List, [], ◌∷◌, ◌++◌, length, map, filter, flat_map, count_by, slice_index_or, codes, decimal}
use Rattle.std.specs.List.{list_any, range_with_len}
use Rattle.rcc5_core.specs.declared.Rel.{Rel}
use Rattle.rcc5_core.specs.declared.Rel.TheVariants.{Disjoint}
use Rattle.rcc5_core.specs.declared.RelSet.{RelSet}
use Rattle.rcc5_core.specs.RelationSet.{no_rels}
use Rattle.rcc5_core.specs.Relation.{all_rels, same_rel, letter_of}
use Rattle.world_model.specs.Problem.{Problem, cross_pairs}
use Rattle.cleantax_text.specs.Canonical.{concept_text, spaced}
use Rattle.merge_print.specs.Merged.{merged_of}
use Rattle.merge_print.specs.Text.{merged_text}
use Rattle.merge_print.specs.Json.{merged_json}
use Rattle.world_model.specs.Saturated.{saturated}
use Rattle.world_watch.specs.Steps.{Texts}

-- a count as a line
abbrev pub count_line : ℕ → List ℕ
count_line n = decimal (saturated n) ++ codes "\n"

-- `count`: how many worlds there are
abbrev pub count_report : Texts
count_report p tables = count_line (length tables)

-- whether the pair with a number has a relation
abbrev pub has_at : ℕ → Rel → List Rel → Bool
has_at k rel table = same_rel (slice_index_or table k Disjoint) rel

-- in how many worlds it has
abbrev pub times : List (List Rel) → ℕ → Rel → ℕ
times tables k rel = count_by (has_at k rel) tables

-- the names of a pair
abbrev pub pair_names : Problem → ℕ × ℕ → List ℕ
pair_names p pair = concept_text p pair.0 ++ codes " " ++ concept_text p pair.1

-- the pair across taxonomies with a number
abbrev pub cross_at : Problem → ℕ → ℕ × ℕ
cross_at p k = slice_index_or (cross_pairs p) k (0, 0)

-- a line for each pair across taxonomies, by its number
abbrev pub pair_lines : Problem → (ℕ → List ℕ) → List ℕ
pair_lines p line = flat_map line (range_with_len 0 (length (cross_pairs p)))

-- how often the pair with a number has each relation, in relation order
abbrev pub tally_line : Problem → (Rel → ℕ) → ℕ → List ℕ
tally_line p counts k = pair_names p (cross_at p k) ++ spaced (map (λ rel. decimal (saturated (counts rel))) all_rels) ++ codes "\n"

abbrev pub tally_lines : Problem → (ℕ → Rel → ℕ) → List ℕ
tally_lines p counts = pair_lines p (λ k. tally_line p (counts k) k)

-- letters, and a full stop for none
abbrev pub or_dot : List ℕ → List ℕ
or_dot [] = codes "."
or_dot (letter ∷ letters) = letter ∷ letters

-- the letters of the relations of the pair with a number for which a test holds
abbrev pub seen_line : Problem → (Rel → Bool) → ℕ → List ℕ
seen_line p seen k = pair_names p (cross_at p k) ++ codes " " ++ or_dot (map letter_of (filter seen all_rels)) ++ codes "\n"

abbrev pub seen_lines : Problem → (ℕ → Rel → Bool) → List ℕ
seen_lines p seen = pair_lines p (λ k. seen_line p (seen k) k)

-- the set at a place, and the empty one past the end
abbrev pub set_at : List RelSet → ℕ → RelSet
set_at sets k = slice_index_or sets k no_rels

-- whether the pair with a number has a relation in some world
abbrev pub is_seen : List (List Rel) → ℕ → Rel → Bool
is_seen tables k rel = list_any (has_at k rel) tables

-- a world's table and its merged taxonomy
abbrev pub merge_part : Problem → List Rel → List ℕ
merge_part p table = codes "world " ++ map letter_of table ++ codes "\n" ++ merged_text p (merged_of p table)

-- a world's merged taxonomy as a line of JSON
abbrev pub json_part : Problem → List Rel → List ℕ
json_part p table = merged_json p (merged_of p table) ++ codes "\n"

-- `tally`: in how many worlds each pair has each relation
abbrev pub tally_report : Texts
tally_report p tables = tally_lines p (times tables)

-- `seen`: the letters that each pair has in some world
abbrev pub seen_report : Texts
seen_report p tables = seen_lines p (is_seen tables)

-- `merge`: each world's table and merged taxonomy
abbrev pub merge_report : Texts
merge_report p tables = flat_map (merge_part p) tables

-- `json`: the same as lines of JSON
abbrev pub json_report : Texts
json_report p tables = flat_map (json_part p) tables
