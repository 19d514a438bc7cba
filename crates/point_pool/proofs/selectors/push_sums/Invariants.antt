use Rattle.std.proofs.Common.{◌≡◌, ◌++◌}
use Rattle.std.specs.Prelude.{flat_map}
use Rattle.std.specs.List.{range_with_len}
use Rattle.point_pool.specs.Cursors.{kept_selector}
use Rattle.point_pool.proofs.selectors.push_sums.Given as goal

abbrev pub invariant-loop-sum : goal.invariant-loop-sum
invariant-loop-sum l = l.lits.items ≡ l.fn.lits.items ++ flat_map (kept_selector l.problem) (range_with_len 0 l.sum)
