-- The rules of a problem, concept by concept and articulation by articulation.
use Rattle.std.specs.Prelude.{◌≡◌, ℕ, ◌==◌, Bool, not, ◌&&◌, ◌||◌, List, length}
use Rattle.std.specs.List.{list_all, list_any}
use Rattle.rcc5_core.specs.declared.Rel.{Rel}
use Rattle.rcc5_core.specs.Relation.{is_in, is_subset, have_common}
use Rattle.world_model.specs.declared.Articulation.{Articulation}
use Rattle.world_model.specs.declared.Articulation.TheVariants.{Pair, Sum}
use Rattle.world_model.specs.Problem.{Problem, children_of, concept_count}
use Rattle.world_model.specs.Family.{Family, set_of, implies, holds, sum_holds, table_of}

-- whether the sets of some concepts are within that of another
abbrev pub are_within : Family → List ℕ → ℕ → Bool
are_within f parts whole = list_all (λ part. is_subset (set_of f part) (set_of f whole)) parts

-- whether two concepts are one, or have no element in common
abbrev pub is_apart : Family → ℕ → ℕ → Bool
is_apart f a b = (a == b) || not (have_common (set_of f a) (set_of f b))

-- whether no two different ones of some concepts have an element in common
abbrev pub are_apart : Family → List ℕ → Bool
are_apart f children = list_all (λ a. list_all (is_apart f a) children) children

-- whether each element of a concept is in one of some others
abbrev pub is_covered : Family → ℕ → List ℕ → Bool
is_covered f whole parts = list_all (λ x. list_any (λ part. is_in x (set_of f part)) parts) (set_of f whole)

-- the rules on one concept: its children are within it, and, as the switches say, apart, covering it if they are any,
-- and it has an element
abbrev pub rules_at : Problem → Family → ℕ → Bool
rules_at p f c =
    are_within f (children_of p c) c &&
    implies p.switches.sibling (are_apart f (children_of p c)) &&
    implies p.switches.coverage ((length (children_of p c) == 0) || is_covered f c (children_of p c)) &&
    implies p.switches.nonempty (not (length (set_of f c) == 0))

-- whether what an articulation says holds
abbrev pub articulation_holds : Family → Articulation → Bool
articulation_holds f (Pair left right set) = holds f (record { left = left; right = right; set = set })
articulation_holds f (Sum whole parts) = sum_holds f (record { whole = whole; parts = parts })

-- a family has a table where there is one set for each concept, and the relations of its pairs are those of the table
pub record HasTable (p : Problem) (f : Family) (table : List Rel) : Type 0 where
  pub one_each : length f.sets ≡ concept_count p
  pub shown : table_of p f ≡ table
