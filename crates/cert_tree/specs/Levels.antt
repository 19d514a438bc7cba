-- The pairs on which a tree branches, by their numbers, and the depth of each.
use Rattle.std.specs.Prelude.{◌≡◌, ◌≤◌, ℕ, Bool, not, ◌||◌, List, [], filter, length, Option, Some, None, slice_get, option_and_then}
use Rattle.rcc5_core.specs.declared.Rel.{Rel}
use Rattle.rcc5_core.specs.declared.RelSet.{RelSet}
use Rattle.rcc5_core.specs.RelationSet.{is_empty_set, both_of, only}
use Rattle.rcc5_core.specs.Region.{is_whole_set}
use Rattle.world_model.specs.Problem.{Problem, pairs, pair_count}
use Rattle.world_model.specs.Alive.{allowed}
use Rattle.cert_rules.specs.Trees.{Branching}

-- whether a tree branches on a pair: on each, or on those whose allowed set is neither empty nor whole
abbrev pub is_level : Problem → Bool → ℕ × ℕ → Bool
is_level q all pair = all || not (is_empty_set (allowed q pair) || is_whole_set (allowed q pair))

-- the tree over these pairs
abbrev pub tree_over : Problem → Bool → List Rel → Branching
tree_over q all from = record { subject = q; levels = filter (is_level q all) (pairs q); from = from }

-- the tree that branches on no pair
abbrev pub bare_tree : Problem → Branching
bare_tree q = record { subject = q; levels = []; from = [] }

-- the depth of a pair, if it has one
abbrev pub depth_of : List (Option ℕ) → ℕ → Option ℕ
depth_of depths pair = option_and_then (λ depth. depth) (slice_get depths pair)

-- the depths of pairs that stand in a list: each at its place, and no other has one
pub record AreDepths (list : List ℕ) (depths : List (Option ℕ)) : Type 0 where
  pub found : (pair depth : ℕ) → slice_get depths pair ≡ Some (Some depth) → slice_get list depth ≡ Some pair
  pub kept : (pair depth : ℕ) → slice_get list depth ≡ Some pair → slice_get depths pair ≡ Some (Some depth)

-- the numbers and depths of the pairs on which a tree over a problem branches
pub record AreLevels (q : Problem) (list : List ℕ) (depths : List (Option ℕ)) : Type 0 where
  pub depths_are : AreDepths list depths
  pub within : length depths ≤ pair_count q

-- what a pair allows where it may be narrowed to a relation
abbrev pub narrowed_set : RelSet → Option Rel → RelSet
narrowed_set set None = set
narrowed_set set (Some rel) = both_of set (only rel)
