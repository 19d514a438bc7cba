-- Families of sets, and when one meets a problem. A table is a possible world where some family shows it.
use Rattle.std.specs.Prelude.{◌≡◌, ℕ, ◌==◌, nat_lt, Bool, not, ◌&&◌, ◌||◌, List, [], length, map, slice_index_or, IsTrue}
use Rattle.std.specs.List.{list_all, list_any}
use Rattle.rcc5_core.specs.declared.Rel.{Rel}
use Rattle.rcc5_core.specs.Relation.{is_in, is_subset, have_common, relation_of}
use Rattle.rcc5_core.specs.RelationSet.{has}
use Rattle.world_model.specs.Problem.{Problem, Constraint, SumRule, concept_count, concepts, children_of, pairs, constraints, kept_sums}

-- a family: sets of numbers below u, each given by a list of its elements, one set a concept
pub record Family : Type 0 where
  pub universe : ℕ
  pub sets : List (List ℕ)

-- the set of a concept
abbrev pub set_of : Family → ℕ → List ℕ
set_of f c = slice_index_or f.sets c []

-- whether one fact holds or another fails
abbrev pub implies : Bool → Bool → Bool
implies a b = not a || b

-- whether there is one set for each concept, and each of numbers below u
abbrev pub fits_concepts : Problem → Family → Bool
fits_concepts p f = (length f.sets == concept_count p) && list_all (list_all (λ x. nat_lt x f.universe)) f.sets

-- whether each child is a subset of its parent
abbrev pub children_within : Problem → Family → Bool
children_within p f = list_all (λ c. list_all (λ child. is_subset (set_of f child) (set_of f c)) (children_of p c)) (concepts p)

-- whether two different children of one parent never have an element in common
abbrev pub siblings_apart : Problem → Family → Bool
siblings_apart p f =
    list_all (λ c. list_all (λ a. list_all (λ b. (a == b) || not (have_common (set_of f a) (set_of f b))) (children_of p c)) (children_of p c)) (concepts p)

-- whether each element of a concept that has children is in one of its children
abbrev pub parents_covered : Problem → Family → Bool
parents_covered p f =
    list_all (λ c. (length (children_of p c) == 0) ||
    list_all (λ x. list_any (λ child. is_in x (set_of f child)) (children_of p c)) (set_of f c)) (concepts p)

-- whether each concept has an element
abbrev pub none_empty : Problem → Family → Bool
none_empty p f = list_all (λ c. not (length (set_of f c) == 0)) (concepts p)

-- whether the relation of the two sets is one of those stated
abbrev pub holds : Family → Constraint → Bool
holds f c = has c.set (relation_of (set_of f c.left) (set_of f c.right))

-- whether an element is in the whole exactly where it is in one of the parts
abbrev pub sum_holds : Family → SumRule → Bool
sum_holds f s =
    list_all (λ x. list_any (λ part. is_in x (set_of f part)) s.parts) (set_of f s.whole) &&
    list_all (λ part. is_subset (set_of f part) (set_of f s.whole)) s.parts

-- whether a family meets a problem
abbrev pub meets : Problem → Family → Bool
meets p f =
    fits_concepts p f &&
    children_within p f &&
    implies p.switches.sibling (siblings_apart p f) &&
    implies p.switches.coverage (parents_covered p f) &&
    implies p.switches.nonempty (none_empty p f) &&
    list_all (holds f) (constraints p) &&
    list_all (sum_holds f) (kept_sums p)

-- the table of a family: the relation of each pair, in the order of the pairs
abbrev pub table_of : Problem → Family → List Rel
table_of p f = map (λ pair. relation_of (set_of f pair.0) (set_of f pair.1)) (pairs p)

-- a table is a possible world where some family, over any universe, meets the problem and has that table
abbrev pub IsPossibleWorld : Problem → List Rel → Type 0
IsPossibleWorld p table = (f : Family) × IsTrue (meets p f) × (table_of p f ≡ table)
