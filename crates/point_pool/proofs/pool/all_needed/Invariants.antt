use Rattle.std.proofs.Common.{ℕ, ◌<◌}
use Rattle.std.specs.Prelude.{Contains, IsTrue}
use Rattle.world_model.specs.Alive.{problem_at}
use Rattle.point_encode.specs.Numbers.{is_needed}
use Rattle.point_pool.proofs.pool.all_needed.Given as goal

abbrev pub invariant-loop-number : goal.invariant-loop-number
invariant-loop-number l = (number : ℕ) → number < l.number → IsTrue (is_needed (problem_at l.cursor.problem l.cursor.path) number) → Contains l.waiting number
