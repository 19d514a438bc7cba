-- What every problem keeps besides `is_problem`: what it was made of, and what follows from it.
use Rattle.std.specs.Prelude.{◌≡◌, ◌≢◌, ◌<◌, ◌≤◌, ◌↔◌, ℕ, ◌==◌, Bool, true, not, ◌&&◌, List, [], ◌∷◌, Some, length, map, All, AllPairs, Contains, IsTrue, sum_by}
use Rattle.std.specs.List.{list_all, list_any}
use Rattle.rcc5_core.specs.RelationSet.{is_empty_set}
use Rattle.taxon_tree.specs.Trees.{Trees, IsForest, IsAncestor}
use Rattle.world_model.specs.Problem.{Problem, is_articulation, is_problem, concept_count, owner_of, parent_of, children_of}
use Rattle.world_model.specs.declared.Articulation.{Articulation}
use Rattle.world_model.specs.declared.Articulation.TheVariants.{Pair, Sum}
use Rattle.world_model.specs.declared.Switches.{Switches}
use Rattle.constraint_set.specs.Build.{size_of, problem_of}
use Rattle.constraint_set.specs.Readers.{name_of, sum_places}

-- whether no number stands twice in a list
abbrev pub all_different : List ℕ → Bool
all_different [] = true
all_different (x ∷ xs) = not (list_any (λ y. x == y) xs) && all_different xs

-- whether an articulation says something: a set that isn't empty, or parts that are all different
abbrev pub is_said : Articulation → Bool
is_said (Pair left right set) = not (is_empty_set set)
is_said (Sum whole parts) = all_different parts

-- the articulations fit the concepts of the forests: numbers in range, the left of a pair below its right, across taxonomies
abbrev pub all_fit : List Trees → List Articulation → Switches → Bool
all_fit forests articulations switches = list_all (is_articulation (problem_of [] forests articulations switches)) articulations

-- taxonomies' names, forests and articulations that a problem can be made of
pub record CanBuild (ids : List (List ℕ)) (forests : List Trees) (articulations : List Articulation) (switches : Switches) : Type 0 where
  pub two : 2 ≤ length forests
  pub eight : length forests ≤ 8
  pub named : length ids ≡ length forests
  pub concepts : sum_by size_of forests ≤ 1024
  pub few : length articulations ≤ 4096
  pub fit : IsTrue (all_fit forests articulations switches)
  pub said : IsTrue (list_all is_said articulations)

-- the problem with all articulations kept and nothing narrowed
abbrev pub as_read : Problem → Problem
as_read p = record p { kept = map (λ _. true) p.articulations; narrowings = [] }

-- the problem was made of these forests, up to what is kept and narrowed
pub record IsMadeOf (p : Problem) (forests : List Trees) : Type 0 where
  pub can : CanBuild p.taxonomies forests p.articulations p.switches
  pub forests_hold : All IsForest forests
  pub made : as_read p ≡ problem_of p.taxonomies forests p.articulations p.switches

-- all concepts of a problem as one row of trees, by their numbers in the problem
abbrev pub trees_of : Problem → Trees
trees_of p = record { names = p.names; parents = p.parents; children = p.children }

-- what every problem keeps
pub record IsBuilt (p : Problem) : Type 0 where
  pub valid : IsTrue (is_problem p)
  -- some forests make it
  pub made : (forests : List Trees) × IsMadeOf p forests
  -- sizes
  pub two : 2 ≤ length p.taxonomies
  pub eight : length p.taxonomies ≤ 8
  pub concepts : concept_count p ≤ 1024
  pub few : length p.articulations ≤ 4096
  -- the sets of pairs aren't empty, and the parts of a sum are different
  pub said : IsTrue (list_all is_said p.articulations)
  -- the concepts are numbered taxonomy by taxonomy
  pub owners_ascend : (c d : ℕ) → c ≤ d → d < concept_count p → owner_of p c ≤ owner_of p d
  -- no two concepts of one taxonomy have one name
  pub names_apart : (c d : ℕ) → c < d → d < concept_count p → owner_of p c ≡ owner_of p d → name_of p c ≢ name_of p d
  -- a parent is a concept of the same taxonomy
  pub parents_within : (c q : ℕ) → parent_of p c ≡ Some q → (q < concept_count p) × (owner_of p q ≡ owner_of p c)
  -- a concept is among the children of q exactly where q is its parent, and stands there once
  pub listed : (q c : ℕ) → Contains (children_of p q) c ↔ (parent_of p c ≡ Some q)
  pub once : (q : ℕ) → AllPairs (λ c d. c ≢ d) (children_of p q)
  -- no concept is above itself
  pub no_cycle : (c : ℕ) → ¬ IsAncestor (trees_of p) c c

-- a problem as read keeps all articulations and narrows nothing
pub record IsAsRead (p : Problem) : Type 0 where
  pub all_kept : p.kept ≡ map (λ _. true) p.articulations
  pub not_narrowed : p.narrowings ≡ []

-- what all problems of one shape share, with the places of its sums
pub record IsShape (p : Problem) (sums : List ℕ) : Type 0 where
  pub made : (forests : List Trees) × IsMadeOf p forests
  pub names_counted : length p.names ≡ length p.owners
  pub parents_counted : length p.parents ≡ length p.owners
  pub children_counted : length p.children ≡ length p.owners
  pub few : length p.articulations ≤ 4096
  pub sums_are : sums ≡ sum_places p
