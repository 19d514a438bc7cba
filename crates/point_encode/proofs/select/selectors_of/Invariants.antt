use Rattle.std.proofs.Common.{◌≡◌, ◌+◌, ◌*◌, ◌++◌, drop}
use Rattle.world_model.specs.Problem.{concept_count, pairs}
use Rattle.world_model.specs.Alive.{forced_of, forced_pairs, problem_at}
use Rattle.point_encode.specs.Model.Forced.{region_selectors}
use Rattle.point_encode.proofs.select.selectors_of.Given as goal

-- what is still to be added of the pairs completes their selectors
abbrev pub invariant-loop-pair : goal.invariant-loop-pair
invariant-loop-pair l =
    l.lits.items ++ region_selectors (concept_count l.problem + 3 * l.pair) (forced_of (problem_at l.problem l.prefix) (drop l.pair (pairs l.problem))) ≡
    region_selectors (concept_count l.problem) (forced_pairs (problem_at l.problem l.prefix))
