-- How the problem at a node comes of that at its parent.
use Rattle.std.specs.Prelude.{◌≡◌, ℕ, ◌<◌, List, [], ◌∷◌, ◌++◌, length, slice_index_or}
use Rattle.rcc5_core.specs.declared.Rel.{Rel}
use Rattle.rcc5_core.specs.declared.RelSet.{RelSet}
use Rattle.rcc5_core.specs.RelationSet.{only, both_of}
use Rattle.world_model.specs.Problem.{Problem, narrowed}
use Rattle.world_model.specs.Alive.{allowed}
use Rattle.cert_rules.specs.Trees.{Branching, node_problem}

-- the pair of a depth
abbrev pub level_at : Branching → ℕ → ℕ × ℕ
level_at tree depth = slice_index_or tree.levels depth (0, 0)

-- the root has the problem of the tree, and a node that of its parent, with one pair narrowed to the last relation; narrowing a
-- pair takes from what it allows, and leaves what other pairs allow
pub record ChildrenNarrow : Type 0 where
  pub root : (tree : Branching) → node_problem tree [] ≡ tree.subject
  pub child : (tree : Branching) (m : List Rel) (rel : Rel) → length m < length tree.levels →
      node_problem tree (m ++ rel ∷ []) ≡ narrowed (node_problem tree m) (level_at tree (length m)) (only rel)
  pub own : (q : Problem) (pair : ℕ × ℕ) (set : RelSet) → allowed (narrowed q pair set) pair ≡ both_of (allowed q pair) set
  pub others : (q : Problem) (pair other : ℕ × ℕ) (set : RelSet) → (other ≡ pair → ⊥) → allowed (narrowed q pair set) other ≡ allowed q other
