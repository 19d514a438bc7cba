-- The problem that forests and articulations give: concepts are numbered taxonomy by taxonomy, in each as its forest numbers them.
use Rattle.std.specs.Prelude.{ℕ, ◌+◌, true, List, [], ◌∷◌, ◌++◌, length, map, flat_map, replicate, Option}
use Rattle.std.specs.Option.{option_map}
use Rattle.taxon_tree.specs.Trees.{Trees}
use Rattle.world_model.specs.Problem.{Problem}
use Rattle.world_model.specs.declared.Articulation.{Articulation}
use Rattle.world_model.specs.declared.Switches.{Switches}

-- how many concepts a forest has
abbrev pub size_of : Trees → ℕ
size_of forest = length forest.names

-- the taxonomy of each concept, where the first forest is that with this number
abbrev pub owners_from : ℕ → List Trees → List ℕ
owners_from which [] = []
owners_from which (forest ∷ forests) = replicate (size_of forest) which ++ owners_from (which + 1) forests

-- the parent of each concept, where so many concepts come before the first forest
abbrev pub parents_from : ℕ → List Trees → List (Option ℕ)
parents_from before [] = []
parents_from before (forest ∷ forests) = map (option_map (λ c. before + c)) forest.parents ++ parents_from (before + size_of forest) forests

-- the children of each concept, likewise
abbrev pub children_from : ℕ → List Trees → List (List ℕ)
children_from before [] = []
children_from before (forest ∷ forests) = map (map (λ c. before + c)) forest.children ++ children_from (before + size_of forest) forests

-- the problem as read: all articulations are kept, and nothing is narrowed
abbrev pub problem_of : List (List ℕ) → List Trees → List Articulation → Switches → Problem
problem_of ids forests articulations switches = record {
  taxonomies = ids;
  names = flat_map (λ forest. forest.names) forests;
  owners = owners_from 0 forests;
  parents = parents_from 0 forests;
  children = children_from 0 forests;
  articulations = articulations;
  kept = map (λ _. true) articulations;
  narrowings = [];
  switches = switches;
}
