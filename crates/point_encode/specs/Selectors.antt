-- A selector as the code has it: that a region of a pair is empty, or that a sum is kept.
use Rattle.std.specs.Prelude.{ℕ, ◌+◌, ◌*◌, ◌<◌, length}
use Rattle.world_model.specs.Problem.{Problem, concept_count, pair_count}
use Rattle.constraint_set.specs.Readers.{sum_places}
use Rattle.point_encode.specs.Model.Clauses.{first_sum_selector, is_so}
use Rattle.point_encode.specs.declared.asked.Selector.{Selector}
use Rattle.point_encode.specs.declared.asked.Selector.TheVariants.{Empty, Kept}

-- the literal that it is
abbrev pub selector_lit : Problem → Selector → ℕ
selector_lit p (Empty pair part) = is_so (concept_count p + 3 * pair + part)
selector_lit p (Kept sum) = is_so (first_sum_selector p + sum)

-- its numbers are in range
abbrev pub IsSelector : Problem → Selector → Type 0
IsSelector p (Empty pair part) = (pair < pair_count p) × (part < 3)
IsSelector p (Kept sum) = sum < length (sum_places p)
