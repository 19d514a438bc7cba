-- The concepts of forests, taken in forest by forest.
use Rattle.std.specs.Prelude.{ℕ, ◌+◌, List, [], ◌∷◌, ◌++◌, length, map, flat_map, replicate, take, Option}
use Rattle.std.specs.Option.{option_map}
use Rattle.taxon_tree.specs.Trees.{Trees, name_of, parent_of, children_of}
use Rattle.constraint_set.specs.Build.{size_of, owners_from, parents_from, children_from}

-- by number: each concept's name, owner, parent and children
pub record Gathered : Type 0 where
  pub names : List (List ℕ)
  pub owners : List ℕ
  pub parents : List (Option ℕ)
  pub children : List (List ℕ)

-- no concepts
abbrev pub nothing_gathered : Gathered
nothing_gathered = record { names = []; owners = []; parents = []; children = [] }

-- the concepts of these forests
abbrev pub gathered : List Trees → Gathered
gathered forests = record {
  names = flat_map (λ forest. forest.names) forests;
  owners = owners_from 0 forests;
  parents = parents_from 0 forests;
  children = children_from 0 forests;
}

-- what is there, and the first n concepts of a forest, which are of this taxonomy, and are numbered on from `before`
abbrev pub with_first : Gathered → ℕ → ℕ → Trees → ℕ → Gathered
with_first g before which forest n = record {
  names = g.names ++ take n forest.names;
  owners = g.owners ++ replicate n which;
  parents = g.parents ++ map (option_map (λ c. before + c)) (take n forest.parents);
  children = g.children ++ map (map (λ c. before + c)) (take n forest.children);
}

-- what is there, and one concept of a forest
abbrev pub with_concept : Gathered → ℕ → ℕ → Trees → ℕ → Gathered
with_concept g before which forest c = record {
  names = g.names ++ name_of forest c ∷ [];
  owners = g.owners ++ which ∷ [];
  parents = g.parents ++ option_map (λ q. before + q) (parent_of forest c) ∷ [];
  children = g.children ++ map (λ q. before + q) (children_of forest c) ∷ [];
}

-- what is there, and a whole forest
abbrev pub with_forest : Gathered → ℕ → Trees → Gathered
with_forest g which forest = record {
  names = g.names ++ forest.names;
  owners = g.owners ++ replicate (size_of forest) which;
  parents = g.parents ++ map (option_map (λ c. length g.owners + c)) forest.parents;
  children = g.children ++ map (map (λ c. length g.owners + c)) forest.children;
}
