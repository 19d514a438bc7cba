-- What a problem is: concepts in taxonomies, and what experts say of them.
use Rattle.std.specs.Prelude.{ℕ, ◌==◌, nat_lt, Bool, not, ◌&&◌, List, [], ◌∷◌, ◌++◌, length, map, filter, filter_map, flat_map, Option, Some, None, slice_index_or}
use Rattle.std.specs.List.{list_all, range_with_len, items_where_true}
use Rattle.rcc5_core.specs.declared.RelSet.{RelSet}
use Rattle.world_model.specs.declared.Articulation.{Articulation}
use Rattle.world_model.specs.declared.Articulation.TheVariants.{Pair, Sum}
use Rattle.world_model.specs.declared.Switches.{Switches}

-- a statement on two concepts: their relation is in the set
pub record Constraint : Type 0 where
  pub left : ℕ
  pub right : ℕ
  pub set : RelSet

-- a statement that a concept is the union of others
pub record SumRule : Type 0 where
  pub whole : ℕ
  pub parts : List ℕ

-- a problem. Concepts are numbered from 0, and each list has one entry a concept, but for the taxonomies' names,
-- the articulations with a flag for each (whether it is kept), and the narrowings
pub record Problem : Type 0 where
  pub taxonomies : List (List ℕ)
  pub names : List (List ℕ)
  pub owners : List ℕ
  pub parents : List (Option ℕ)
  pub children : List (List ℕ)
  pub articulations : List Articulation
  pub kept : List Bool
  pub narrowings : List Constraint
  pub switches : Switches

-- how many concepts there are
abbrev pub concept_count : Problem → ℕ
concept_count p = length p.owners

-- the concepts, by number
abbrev pub concepts : Problem → List ℕ
concepts p = range_with_len 0 (concept_count p)

-- the taxonomy of a concept, by its place
abbrev pub owner_of : Problem → ℕ → ℕ
owner_of p c = slice_index_or p.owners c 0

-- a concept's parent, if it has one
abbrev pub parent_of : Problem → ℕ → Option ℕ
parent_of p c = slice_index_or p.parents c None

-- a concept's children, in order
abbrev pub children_of : Problem → ℕ → List ℕ
children_of p c = slice_index_or p.children c []

-- the pairs (i, j) of concepts with i before j, by i and then j
abbrev pub all_pairs : Problem → List (ℕ × ℕ)
all_pairs p = flat_map (λ i. map (λ j. (i, j)) (filter (nat_lt i) (concepts p))) (concepts p)

-- whether the two concepts are of different taxonomies
abbrev pub is_cross : Problem → ℕ × ℕ → Bool
is_cross p pair = not (owner_of p pair.0 == owner_of p pair.1)

-- the pairs in their order: those across taxonomies, then those inside one
abbrev pub pairs : Problem → List (ℕ × ℕ)
pairs p = filter (is_cross p) (all_pairs p) ++ filter (λ pair. not (is_cross p pair)) (all_pairs p)

-- how many pairs there are
abbrev pub pair_count : Problem → ℕ
pair_count p = length (pairs p)

-- the pairs across taxonomies
abbrev pub cross_pairs : Problem → List (ℕ × ℕ)
cross_pairs p = filter (is_cross p) (all_pairs p)

-- what an articulation of two concepts says
abbrev pub as_constraint : Articulation → Option Constraint
as_constraint (Pair left right set) = Some (record { left = left; right = right; set = set })
as_constraint (Sum whole parts) = None

-- what a sum says
abbrev pub as_sum : Articulation → Option SumRule
as_sum (Pair left right set) = None
as_sum (Sum whole parts) = Some (record { whole = whole; parts = parts })

-- the articulations that are kept
abbrev pub kept_articulations : Problem → List Articulation
kept_articulations p = items_where_true p.kept p.articulations

-- all that is said of pairs: the kept articulations of pairs, and the narrowings
abbrev pub constraints : Problem → List Constraint
constraints p = filter_map as_constraint (kept_articulations p) ++ p.narrowings

-- the kept sums
abbrev pub kept_sums : Problem → List SumRule
kept_sums p = filter_map as_sum (kept_articulations p)

-- the problem with the flags replaced: just the articulations whose flag is true are kept
abbrev pub restricted : Problem → List Bool → Problem
restricted p kept = record p { kept = kept }

-- the problem with one more narrowing
abbrev pub narrowed : Problem → ℕ × ℕ → RelSet → Problem
narrowed p pair set = record p { narrowings = p.narrowings ++ record { left = pair.0; right = pair.1; set = set } ∷ [] }

-- whether a number is that of a concept
abbrev pub is_concept : Problem → ℕ → Bool
is_concept p c = nat_lt c (concept_count p)

-- whether a statement is about a pair of concepts in its order
abbrev pub is_about_pair : Problem → Constraint → Bool
is_about_pair p c = nat_lt c.left c.right && is_concept p c.right

-- whether an articulation is one: a pair across taxonomies in its order, or two or more parts that are of other
-- taxonomies than the whole
abbrev pub is_articulation : Problem → Articulation → Bool
is_articulation p (Pair left right set) = nat_lt left right && is_concept p right && is_cross p (left, right)
is_articulation p (Sum whole parts) =
    is_concept p whole && nat_lt 1 (length parts) && list_all (λ part. is_concept p part && is_cross p (whole, part)) parts

-- whether a list has one entry a concept
abbrev pub is_full : {X : Type 0} → Problem → List X → Bool
is_full p xs = length xs == concept_count p

-- what every problem keeps: lists of one length, and numbers of concepts where a concept is meant
abbrev pub is_problem : Problem → Bool
is_problem p =
    is_full p p.names && is_full p p.parents && is_full p p.children &&
    list_all (λ owner. nat_lt owner (length p.taxonomies)) p.owners &&
    list_all (list_all (is_concept p)) p.children &&
    (length p.kept == length p.articulations) &&
    list_all (is_articulation p) p.articulations &&
    list_all (is_about_pair p) p.narrowings
