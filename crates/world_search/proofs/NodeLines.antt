-- What the lines of nodes say is so.
use Rattle.std.proofs.Common.{◌≡◌, ℕ, true, List, [], ◌∷◌, length, All, refl, IsTrue}
use Rattle.std.specs.Prelude.{◌==◌, nat_lt}
use Rattle.std.specs.List.{list_all, AllByRecursion}
use Rattle.std.proofs.lemmas.Bool.{and_from, and_parts}
use Rattle.std.proofs.lemmas.List.Elements.{recursion_from_All}
use Rattle.rcc5_core.specs.Relation.{is_ascending}
use Rattle.world_model.specs.Problem.{Problem, concept_count}
use Rattle.world_model.specs.Family.{Family, meets}
use Rattle.world_model.proofs.PointRules.{met_parts}
use Rattle.set_family.specs.Sets.{is_set_below}

-- ascending lists of numbers below a bound are sets
by_recursion : (u : ℕ) (sets : List (List ℕ)) → AllByRecursion (λ set. IsTrue (is_ascending set)) sets → list_all (list_all (λ x. nat_lt x u)) sets ≡ true → list_all (is_set_below u) sets ≡ true
by_recursion u [] ascend below = refl
by_recursion u (set ∷ sets) ascend below =
    let parts = and_parts (list_all (λ x. nat_lt x u) set) (list_all (list_all (λ x. nat_lt x u)) sets) below in
    and_from (is_set_below u set) (list_all (is_set_below u) sets) (and_from (is_ascending set) (list_all (λ x. nat_lt x u) set) ascend.0 parts.0) (by_recursion u sets ascend.1 parts.1)

pub are_sets : (u : ℕ) (sets : List (List ℕ)) → All (λ set. IsTrue (is_ascending set)) sets → list_all (list_all (λ x. nat_lt x u)) sets ≡ true → list_all (is_set_below u) sets ≡ true
are_sets u sets ascend below = by_recursion u sets (recursion_from_All (λ set. IsTrue (is_ascending set)) sets ascend) below

-- and those of a family that meets a problem are below its number
pub below_universe : (p : Problem) (f : Family) → meets p f ≡ true → list_all (list_all (λ x. nat_lt x f.universe)) f.sets ≡ true
below_universe p f met = (and_parts (length f.sets == concept_count p) (list_all (list_all (λ x. nat_lt x f.universe)) f.sets) (met_parts p f met).fits).1
