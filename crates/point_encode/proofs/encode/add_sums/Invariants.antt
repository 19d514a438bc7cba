use Rattle.std.proofs.Common.{◌≡◌, ◌+◌, ◌++◌, drop}
use Rattle.constraint_set.specs.Readers.{all_sums}
use Rattle.point_encode.specs.Model.Clauses.{first_sum_selector, sums_clauses}
use Rattle.point_encode.proofs.encode.add_sums.Given as goal

-- what is still to be added completes the clauses
abbrev pub invariant-loop-sum : goal.invariant-loop-sum
invariant-loop-sum l =
    l.clauses.items ++ sums_clauses (first_sum_selector l.problem + l.sum) (drop l.sum (all_sums l.problem)) ≡
    l.initial.clauses.items ++ sums_clauses (first_sum_selector l.problem) (all_sums l.problem)
