-- What a row of names makes of a forest: the new trees, or the row's first fault.
use Rattle.std.specs.Prelude.{◌==◌, ◌++◌, ◌||◌, ℕ, Bool, false, not, List, [], ◌∷◌, Option, None, Some, Result, Ok, Err, if◌then◌else◌, is_some, length, nat_le, slice_set}
use Rattle.std.specs.List.{position_or_len}
use Rattle.std.specs.Str.{bytes_eq}
use Rattle.taxon_tree.specs.Trees.{Trees, parent_of, children_of, number_of}
use Rattle.taxon_tree.specs.Ancestry.{is_ancestor}
use Rattle.taxon_tree.specs.declared.ForestFault.{ForestFault}
use Rattle.taxon_tree.specs.declared.ForestFault.TheVariants.{TooManyConcepts, TwoParents, ChildTwice, Cycle}

-- the fault where the test holds, and else the rest
abbrev pub fail_if : Bool → ForestFault → Result Trees ForestFault → Result Trees ForestFault
fail_if test fault rest = if test then Err fault else rest

-- a fault, or what the next step makes of the trees
abbrev pub and_then : Result Trees ForestFault → (Trees → Result Trees ForestFault) → Result Trees ForestFault
and_then (Ok f) next = next f
and_then (Err fault) next = Err fault

-- the trees with one root more, of this name
abbrev pub with_root : Trees → List ℕ → Trees
with_root f name = record { names = f.names ++ name ∷ []; parents = f.parents ++ None ∷ []; children = f.children ++ [] ∷ [] }

-- the trees with `child` put last among the children of `parent`
abbrev pub with_child : Trees → ℕ → ℕ → Trees
with_child f parent child = record { names = f.names; parents = slice_set f.parents child (Some parent); children = slice_set f.children parent (children_of f parent ++ child ∷ []) }

-- the number that the name has, or will have where it is new
abbrev pub place_of : Trees → List ℕ → ℕ
place_of f name = position_or_len (bytes_eq name) f.names

-- the trees with this name in place: a new name becomes a root, unless `limit` names are there
unfoldable pub with_name : ℕ → Trees → List ℕ → Result Trees ForestFault
with_name limit f name =
    if is_some (number_of f name) then Ok f else fail_if (nat_le limit (length f.names)) TooManyConcepts (Ok (with_root f name))

-- whether there is a parent, and it is another one than `parent`; and whether it is this one
abbrev pub is_another : ℕ → Option ℕ → Bool
is_another parent None = false
is_another parent (Some p) = not (p == parent)

abbrev pub is_this : ℕ → Option ℕ → Bool
is_this parent None = false
is_this parent (Some p) = p == parent

-- the trees with `child` under `parent`, where nothing speaks against it
unfoldable pub with_link : ℕ → Trees → ℕ → Result Trees ForestFault
with_link parent f child =
    fail_if (is_another parent (parent_of f child)) TwoParents
    (fail_if (is_this parent (parent_of f child)) ChildTwice
    (fail_if (child == parent || is_ancestor f child parent) Cycle
    (Ok (with_child f parent child))))

-- a child of a row: its name is put in place, and then it is put under the parent
abbrev pub add_child : ℕ → ℕ → Trees → List ℕ → Result Trees ForestFault
add_child limit parent f name = and_then (with_name limit f name) (λ g. with_link parent g (place_of f name))

-- the children of a row, from the left
abbrev pub add_children : ℕ → ℕ → Trees → List (List ℕ) → Result Trees ForestFault
add_children limit parent f [] = Ok f
add_children limit parent f (name ∷ names) = and_then (add_child limit parent f name) (λ g. add_children limit parent g names)

-- a row: the first name is put in place, and the others are put under it
abbrev pub add_row : ℕ → Trees → List (List ℕ) → Result Trees ForestFault
add_row limit f [] = Ok f
add_row limit f (name ∷ names) = and_then (with_name limit f name) (λ g. add_children limit (place_of f name) g names)
