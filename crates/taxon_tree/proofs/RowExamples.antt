-- Rows as the definition computes them: A over B and C first, and then one row more.
use Rattle.std.proofs.Common.{◌≡◌, ℕ, List, [], ◌∷◌, Result, Ok, Err, None, Some, refl}
use Rattle.taxon_tree.specs.Trees.{Trees, no_trees}
use Rattle.taxon_tree.specs.Ancestry.{decided, is_ancestor}
use Rattle.taxon_tree.specs.Row.{with_name, with_link, and_then, add_row}
use Rattle.taxon_tree.specs.declared.ForestFault.{ForestFault}
use Rattle.taxon_tree.specs.declared.ForestFault.TheVariants.{TwoParents, ChildTwice, Cycle, TooManyConcepts}

-- the names A to D
abbrev a : List ℕ
a = 65 ∷ []

abbrev b : List ℕ
b = 66 ∷ []

abbrev c : List ℕ
c = 67 ∷ []

abbrev d : List ℕ
d = 68 ∷ []

-- a row more, where four concepts may be
abbrev after : List (List ℕ) → Result Trees ForestFault
after names = and_then (add_row 4 no_trees (a ∷ b ∷ c ∷ [])) (λ f. add_row 4 f names)

new_child : after (c ∷ d ∷ []) ≡ Ok (record { names = a ∷ b ∷ c ∷ d ∷ []; parents = None ∷ Some 0 ∷ Some 0 ∷ Some 2 ∷ []; children = (1 ∷ 2 ∷ []) ∷ [] ∷ (3 ∷ []) ∷ [] ∷ [] })
unfolding with_name with_link decided is_ancestor
new_child = refl

two_parents : after (d ∷ b ∷ []) ≡ Err TwoParents
unfolding with_name with_link decided is_ancestor
two_parents = refl

child_twice : after (a ∷ b ∷ []) ≡ Err ChildTwice
unfolding with_name with_link decided is_ancestor
child_twice = refl

cycle : after (b ∷ a ∷ []) ≡ Err Cycle
unfolding with_name with_link decided is_ancestor
cycle = refl

too_many : after (d ∷ (69 ∷ []) ∷ []) ≡ Err TooManyConcepts
unfolding with_name with_link decided is_ancestor
too_many = refl
