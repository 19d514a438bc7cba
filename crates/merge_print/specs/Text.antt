-- The text of a merged taxonomy.
use Rattle.std.specs.Prelude.{◌<◌, ℕ, ◌+◌, List, [], ◌∷◌, ◌++◌, length, map, flat_map, slice_index_or, codes, decimal, All}
use Rattle.std.specs.List.{range_with_len}
use Rattle.world_model.specs.Problem.{Problem, concept_count}
use Rattle.cleantax_text.specs.Canonical.{concept_text, spaced}
use Rattle.merge_print.specs.declared.taxonomy.MergedTaxonomy.{MergedTaxonomy}

-- a pair of numbers of concepts
abbrev pub AreConcepts : Problem → ℕ × ℕ → Type 0
AreConcepts p pair = (pair.0 < concept_count p) × (pair.1 < concept_count p)

-- the numbers in classes and splits are those of concepts
pub record IsInRange (p : Problem) (m : MergedTaxonomy) : Type 0 where
  pub classes_within : All (All (λ c. c < concept_count p)) m.classes
  pub splits_within : All (AreConcepts p) m.splits

-- names with ` = ` between two
abbrev pub equal_names : List (List ℕ) → List ℕ
equal_names [] = []
equal_names (name ∷ others) = name ++ flat_map (λ other. codes " = " ++ other) others

-- the line of a class with its number
abbrev pub class_line : Problem → ℕ → List ℕ → List ℕ
class_line p number concepts = codes "class " ++ decimal number ++ codes " " ++ equal_names (map (concept_text p) concepts) ++ codes "\n"

-- the line of the class at a place: numbers count from 1
abbrev pub class_line_at : Problem → List (List ℕ) → ℕ → List ℕ
class_line_at p classes k = class_line p (k + 1) (slice_index_or classes k [])

-- the line of a class and one that it is under
abbrev pub under_line : ℕ × ℕ → List ℕ
under_line pair = codes "under " ++ decimal pair.0 ++ codes " " ++ decimal pair.1 ++ codes "\n"

-- two names with a sign between them
abbrev pub joined_names : Problem → List ℕ → ℕ × ℕ → List ℕ
joined_names p sign pair = concept_text p pair.0 ++ sign ++ concept_text p pair.1

-- the names of the three parts of a split: what both have, the first without the second, and the second without the first
abbrev pub part_names : Problem → ℕ × ℕ → List (List ℕ)
part_names p pair = joined_names p (codes "*") pair ∷ joined_names p (codes "\\") pair ∷ joined_names p (codes "\\") (pair.1, pair.0) ∷ []

-- the line of a split
abbrev pub split_line : Problem → ℕ × ℕ → List ℕ
split_line p pair = codes "split" ++ spaced (map (concept_text p) (pair.0 ∷ pair.1 ∷ [])) ++ spaced (part_names p pair) ++ codes "\n"

-- the text: the classes, what is under what, and the splits
abbrev pub merged_text : Problem → MergedTaxonomy → List ℕ
merged_text p m =
    flat_map (class_line_at p m.classes) (range_with_len 0 (length m.classes)) ++
    flat_map under_line m.under ++
    flat_map (split_line p) m.splits
