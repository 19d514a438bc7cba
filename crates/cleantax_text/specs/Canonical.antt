-- The canonical text of a problem.
use Rattle.std.specs.Prelude.{ℕ, ◌==◌, List, [], ◌∷◌, ◌++◌, length, map, filter, flat_map, find, Option, bytes_eq, true, false, if◌then◌else◌, codes}
use Rattle.std.specs.List.{range_with_len}
use Rattle.rcc5_core.specs.declared.Rel.{Rel}
use Rattle.rcc5_core.specs.declared.Rel.TheVariants.{Equals, Includes, IncludedIn, Overlaps, Disjoint}
use Rattle.rcc5_core.specs.declared.RelSet.{RelSet}
use Rattle.rcc5_core.specs.Relation.{all_rels}
use Rattle.rcc5_core.specs.RelationSet.{has}
use Rattle.world_model.specs.declared.Articulation.{Articulation}
use Rattle.world_model.specs.declared.Articulation.TheVariants.{Pair, Sum}
use Rattle.world_model.specs.Problem.{Problem, concepts, owner_of, children_of}
use Rattle.constraint_set.specs.Readers.{taxonomy_of, name_of}

-- pieces with a space before each
abbrev pub spaced : List (List ℕ) → List ℕ
spaced pieces = flat_map (λ piece. 32 ∷ piece) pieces

-- ID.NAME
abbrev pub concept_text : Problem → ℕ → List ℕ
concept_text p c = taxonomy_of p (owner_of p c) ++ 46 ∷ name_of p c

-- the concept that a word names as ID.NAME, if any: the first
abbrev pub concept_named : Problem → List ℕ → Option ℕ
concept_named p word = find (λ c. bytes_eq (concept_text p c) word) (concepts p)

-- the word that is printed for a relation
abbrev pub word_of : Rel → List ℕ
word_of Equals = codes "equals"
word_of Includes = codes "includes"
word_of IncludedIn = codes "is_included_in"
word_of Overlaps = codes "overlaps"
word_of Disjoint = codes "disjoint"

-- words with one space between, in braces where they are not one
abbrev pub words_text : List (List ℕ) → List ℕ
words_text [] = codes "{}"
words_text (word ∷ []) = word
words_text (word ∷ other ∷ words) = codes "{" ++ word ++ spaced (other ∷ words) ++ codes "}"

-- a set of relations: its words in the order of relations
abbrev pub set_text : RelSet → List ℕ
set_text set = words_text (map word_of (filter (has set) all_rels))

-- the line of an articulation, without its end
abbrev pub articulation_text : Problem → Articulation → List ℕ
articulation_text p (Pair left right set) =
    codes "[" ++ concept_text p left ++ codes " " ++ set_text set ++ codes " " ++ concept_text p right ++ codes "]"
articulation_text p (Sum whole parts) =
    codes "[" ++ concept_text p whole ++ codes " sums" ++ spaced (map (concept_text p) parts) ++ codes "]"

-- the concepts of a taxonomy, by its number
abbrev pub concepts_in : Problem → ℕ → List ℕ
concepts_in p which = filter (λ c. owner_of p c == which) (concepts p)

-- a row of a concept and its children
abbrev pub row_text : Problem → ℕ → List ℕ
row_text p c = codes "(" ++ name_of p c ++ spaced (map (name_of p) (children_of p c)) ++ codes ")\n"

-- the concepts that have children
abbrev pub parents_in : Problem → ℕ → List ℕ
parents_in p which = filter (λ c. if length (children_of p c) == 0 then false else true) (concepts_in p which)

-- a taxonomy: its line, a line for each concept, and a row for each concept with children
abbrev pub taxonomy_text : Problem → ℕ → List ℕ
taxonomy_text p which =
    codes "taxonomy " ++ taxonomy_of p which ++ codes "\n" ++
    flat_map (λ c. codes "(" ++ name_of p c ++ codes ")\n") (concepts_in p which) ++
    flat_map (row_text p) (parents_in p which)

-- the canonical text: the taxonomies, the line `articulation`, and a line for each articulation
abbrev pub canonical_text : Problem → List ℕ
canonical_text p =
    flat_map (taxonomy_text p) (range_with_len 0 (length p.taxonomies)) ++
    codes "articulation\n" ++
    flat_map (λ a. articulation_text p a ++ codes "\n") p.articulations
