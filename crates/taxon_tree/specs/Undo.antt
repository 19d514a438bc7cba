-- How the trees grow while a row is taken in, and what taking it back undoes.
use Rattle.std.specs.Prelude.{◌≡◌, ◌-◌, ◌<◌, ℕ, List, None, length, take, slice_set, slice_index}
use Rattle.taxon_tree.specs.Trees.{Trees, parent_of, children_of, IsForest}
use Rattle.taxon_tree.specs.Row.{with_root, with_child}

-- the trees came from `start` by new roots, and by roots that were put under `parent`
pub data Grown (start : Trees) (parent : ℕ) : Trees → Type 0 where
  same : Grown start parent start
  root : {f : Trees} (name : List ℕ) → Grown start parent f → Grown start parent (with_root f name)
  child : {f : Trees} (c : ℕ) → c < length f.parents → parent_of f c ≡ None → Grown start parent f → Grown start parent (with_child f parent c)

-- the last child of `parent`
abbrev pub last_child : Trees → ℕ → ℕ
last_child f parent = slice_index (children_of f parent) (length (children_of f parent) - 1)

-- the trees where the last child of `parent` is a root again
abbrev pub without_last_child : Trees → ℕ → Trees
without_last_child f parent = record { names = f.names; parents = slice_set f.parents (last_child f parent) None; children = slice_set f.children parent (take (length (children_of f parent) - 1) (children_of f parent)) }

-- the first n concepts
abbrev pub first_concepts : ℕ → Trees → Trees
first_concepts n f = record { names = take n f.names; parents = take n f.parents; children = take n f.children }

-- whatever forest `old` came from, by a row under `parent`, is what `new` is: it had n concepts, and the parent had `kept` children
abbrev pub IsTakenBack : ℕ → ℕ → ℕ → Trees → Trees → Type 0
IsTakenBack n parent kept old new =
    (start : Trees) → IsForest start → parent < length start.names → Grown start parent old → n ≡ length start.names → kept ≡ length (children_of start parent) → new ≡ start
