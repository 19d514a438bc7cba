-- A forest as contracts see it: the concepts of one taxonomy, numbered from 0, and who is whose parent.
use Rattle.std.specs.Prelude.{◌≡◌, ◌≢◌, ◌<◌, ◌^◌, ◌↔◌, ℕ, List, [], Option, None, Some, All, AllPairs, Contains, length, position, slice_index_or}
use Rattle.std.specs.Str.{bytes_eq}

-- by number: the name of each concept, its parent or none, and its children in order
pub record Trees : Type 0 where
  pub names : List (List ℕ)
  pub parents : List (Option ℕ)
  pub children : List (List ℕ)

-- no concepts
abbrev pub no_trees : Trees
no_trees = record { names = []; parents = []; children = [] }

-- the name of a concept
abbrev pub name_of : Trees → ℕ → List ℕ
name_of f concept = slice_index_or f.names concept []

-- the parent of a concept, and none for a root
abbrev pub parent_of : Trees → ℕ → Option ℕ
parent_of f concept = slice_index_or f.parents concept None

-- the children of a concept, in order
abbrev pub children_of : Trees → ℕ → List ℕ
children_of f concept = slice_index_or f.children concept []

-- the number of the concept that has this name, and none where no concept has it
abbrev pub number_of : Trees → List ℕ → Option ℕ
number_of f name = position (bytes_eq name) f.names

-- upper is an ancestor of lower: it is lower's parent, or an ancestor of lower's parent
pub data IsAncestor (f : Trees) (upper : ℕ) : ℕ → Type 0 where
  parent : {lower : ℕ} → parent_of f lower ≡ Some upper → IsAncestor f upper lower
  further : {lower middle : ℕ} → parent_of f lower ≡ Some middle → IsAncestor f upper middle → IsAncestor f upper lower

-- what holds of the trees of every forest
pub record IsForest (f : Trees) : Type 0 where
  -- as many parents and child lists as names, which a `u32` counts
  pub parents_counted : length f.parents ≡ length f.names
  pub children_counted : length f.children ≡ length f.names
  pub countable : length f.names < 2 ^ 32
  -- no name stands twice
  pub names_apart : AllPairs (λ x y. x ≢ y) f.names
  -- parents and children are concepts
  pub parents_within : (c p : ℕ) → parent_of f c ≡ Some p → p < length f.names
  pub children_within : (p : ℕ) → All (λ c. c < length f.names) (children_of f p)
  -- a concept is among the children of p exactly where p is its parent, and stands there once
  pub listed : (p c : ℕ) → Contains (children_of f p) c ↔ (parent_of f c ≡ Some p)
  pub once : (p : ℕ) → AllPairs (λ c d. c ≢ d) (children_of f p)
  -- no concept is an ancestor of itself
  pub no_cycle : (c : ℕ) → ¬ IsAncestor f c c
