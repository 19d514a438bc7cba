-- The pieces of a canonical text, concept by concept.
use Rattle.std.specs.Prelude.{ℕ, ◌==◌, List, [], ◌++◌, length, flat_map, slice_index_or, if◌then◌else◌, codes}
use Rattle.std.specs.List.{range_with_len}
use Rattle.world_model.specs.Problem.{Problem, owner_of, children_of, concept_count}
use Rattle.world_model.specs.declared.Articulation.{Articulation}
use Rattle.constraint_set.specs.Readers.{name_of}
use Rattle.cleantax_text.specs.Canonical.{concept_text, row_text, taxonomy_text, articulation_text}

-- the line of a concept in this taxonomy, and nothing for one that isn't in it
abbrev pub heading : Problem → ℕ → ℕ → List ℕ
heading p which c = if owner_of p c == which then codes "(" ++ name_of p c ++ codes ")\n" else []

-- the row of a concept in this taxonomy that has children
abbrev pub family : Problem → ℕ → ℕ → List ℕ
family p which c = if owner_of p c == which then (if length (children_of p c) == 0 then [] else row_text p c) else []

-- of the first n concepts
abbrev pub headings : Problem → ℕ → ℕ → List ℕ
headings p which n = flat_map (heading p which) (range_with_len 0 n)

abbrev pub families : Problem → ℕ → ℕ → List ℕ
families p which n = flat_map (family p which) (range_with_len 0 n)

-- a taxonomy, by its pieces
abbrev pub taxonomy_pieces : Problem → ℕ → List ℕ
taxonomy_pieces p which =
    codes "taxonomy " ++ slice_index_or p.taxonomies which [] ++ codes "\n" ++ headings p which (concept_count p) ++ families p which (concept_count p)

-- the line of an articulation
abbrev pub line_of : Problem → Articulation → List ℕ
line_of p a = articulation_text p a ++ codes "\n"

-- the first n taxonomies
abbrev pub taxonomies_text : Problem → ℕ → List ℕ
taxonomies_text p n = flat_map (taxonomy_text p) (range_with_len 0 n)

-- an entry on two concepts, with the words of its relation
abbrev pub pair_text : Problem → ℕ → List ℕ → ℕ → List ℕ
pair_text p left relation right = codes "[" ++ concept_text p left ++ codes " " ++ relation ++ codes " " ++ concept_text p right ++ codes "]"
