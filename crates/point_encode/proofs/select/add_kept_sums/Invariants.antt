use Rattle.std.proofs.Common.{◌≡◌, ◌+◌, ◌++◌, drop}
use Rattle.constraint_set.specs.Readers.{sum_places}
use Rattle.point_encode.specs.Model.Clauses.{first_sum_selector}
use Rattle.point_encode.specs.Model.Forced.{sum_selectors}
use Rattle.point_encode.proofs.select.add_kept_sums.Given as goal

-- what is still to be added of the sums completes their selectors
abbrev pub invariant-loop-sum : goal.invariant-loop-sum
invariant-loop-sum l =
    l.lits.items ++ sum_selectors l.problem.kept (first_sum_selector l.problem + l.sum) (drop l.sum (sum_places l.problem)) ≡
    l.initial.lits.items ++ sum_selectors l.problem.kept (first_sum_selector l.problem) (sum_places l.problem)
