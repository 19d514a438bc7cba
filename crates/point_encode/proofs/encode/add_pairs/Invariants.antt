use Rattle.std.proofs.Common.{◌≡◌, ◌+◌, ◌*◌, ◌++◌, drop}
use Rattle.world_model.specs.Problem.{concept_count, pairs}
use Rattle.point_encode.specs.Model.Clauses.{pairs_clauses}
use Rattle.point_encode.proofs.encode.add_pairs.Given as goal

-- what is still to be added completes the clauses
abbrev pub invariant-loop-pair : goal.invariant-loop-pair
invariant-loop-pair l =
    l.clauses.items ++ pairs_clauses (concept_count l.problem + 3 * l.pair) (drop l.pair (pairs l.problem)) ≡
    l.initial.clauses.items ++ pairs_clauses (concept_count l.problem) (pairs l.problem)
