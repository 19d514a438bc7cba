use Rattle.std.proofs.Common.{◌≡◌, Bool, true, false, ◌&&◌, not, List, [], ◌∷◌, refl, IsTrue, arith}
use Rattle.std.proofs.lemmas.Bool.{and_parts}
use Rattle.std.specs.Ordering.{is_lt}
use Rattle.std.specs.List.{list_all}
use Rattle.rcc5_core.specs.declared.Rel.{Rel}
use Rattle.rcc5_core.specs.declared.Rel.TheVariants.{Equals, Includes, IncludedIn, Overlaps, Disjoint}
use Rattle.rcc5_core.specs.Relation.{relation_of}
use Rattle.rcc5_core.specs.RelationSet.{has, only}
use Rattle.world_model.specs.Problem.{Problem, restricted, constraints, kept_sums}
use Rattle.world_model.specs.Family.{Family, meets, holds, sum_holds, set_of, implies, fits_concepts, children_within, siblings_apart, parents_covered, none_empty}
use Rattle.world_model.specs.Questions.{IsConsistent, HasFlags, flags_cmp}
use Rattle.world_model.specs.Examples.{disputed}
use Rattle.world_model.proofs.examples.second_and_fourth.Goals as goal

-- the halves are the same in both taxonomies
same_halves : Family
same_halves = record { universe = 2; sets = (0 ∷ 1 ∷ []) ∷ (0 ∷ []) ∷ (1 ∷ []) ∷ (0 ∷ 1 ∷ []) ∷ (0 ∷ []) ∷ (1 ∷ []) ∷ [] }

-- C equals F, and B and E have nothing in common
one_shared : Family
one_shared = record { universe = 3; sets = (0 ∷ 1 ∷ []) ∷ (0 ∷ []) ∷ (1 ∷ []) ∷ (1 ∷ 2 ∷ []) ∷ (2 ∷ []) ∷ (1 ∷ []) ∷ [] }

-- no relation is both
not_both : (rel : Rel) → has (only Equals) rel ≡ true → has (only Disjoint) rel ≡ true → ⊥
not_both Equals a b = cc
not_both Includes a b = cc
not_both IncludedIn a b = cc
not_both Overlaps a b = cc
not_both Disjoint a b = cc

-- what is said of pairs holds in a family that meets a problem
held : (p : Problem) (f : Family) → IsTrue (meets p f) → list_all (holds f) (constraints p) ≡ true
held p f m =
    let rules = fits_concepts p f && children_within p f && implies p.switches.sibling (siblings_apart p f) &&
    implies p.switches.coverage (parents_covered p f) && implies p.switches.nonempty (none_empty p f) in
    (and_parts rules (list_all (holds f) (constraints p))
    (and_parts (rules && list_all (holds f) (constraints p)) (list_all (sum_holds f) (kept_sums p)) m).0).1

-- the second and the fourth contradict each other
contradicts : IsConsistent disputed (false ∷ true ∷ false ∷ true ∷ []) → ⊥
contradicts (f, m) =
    let rel = relation_of (set_of f 1) (set_of f 4) in
    let both = and_parts (has (only Equals) rel) (has (only Disjoint) rel && true) (held (restricted disputed (false ∷ true ∷ false ∷ true ∷ [])) f m) in
    not_both rel both.0 (and_parts (has (only Disjoint) rel) true both.1).0

-- what comes before them is consistent
comes_first : (other : List Bool) → HasFlags disputed other → (IsConsistent disputed other → ⊥) →
    IsTrue (not (is_lt (flags_cmp other (false ∷ true ∷ false ∷ true ∷ []))))
unfolding same_halves one_shared
comes_first (false ∷ false ∷ false ∷ false ∷ []) h none = absurd (none (same_halves, refl))
comes_first (false ∷ false ∷ false ∷ true ∷ []) h none = absurd (none (one_shared, refl))
comes_first (false ∷ false ∷ true ∷ false ∷ []) h none = absurd (none (same_halves, refl))
comes_first (false ∷ false ∷ true ∷ true ∷ []) h none = absurd (none (one_shared, refl))
comes_first (false ∷ true ∷ false ∷ false ∷ []) h none = absurd (none (same_halves, refl))
comes_first (false ∷ true ∷ false ∷ true ∷ []) h none = refl
comes_first (false ∷ true ∷ true ∷ c ∷ []) h none = refl
comes_first (true ∷ rest) h none = refl
comes_first [] h none = cc
comes_first (false ∷ []) h none = cc
comes_first (false ∷ b ∷ []) h none = cc
comes_first (false ∷ b ∷ c ∷ []) h none = cc
comes_first (false ∷ b ∷ c ∷ d ∷ e ∷ rest) h none = absurd (omega arith)

pub returns : goal.returns
returns c = record { flags = refl; inconsistent = contradicts; least = comes_first }
