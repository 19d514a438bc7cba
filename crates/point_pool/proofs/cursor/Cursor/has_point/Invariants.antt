use Rattle.std.proofs.Common.{◌≡◌, ℕ, ◌<◌, true}
use Rattle.world_model.specs.Alive.{bit_of, problem_at}
use Rattle.point_pool.specs.Drafted.{AvoidsPairsOf}
use Rattle.point_pool.proofs.cursor.Cursor.has_point.Given as goal

abbrev pub invariant-loop-concept : goal.invariant-loop-concept
invariant-loop-concept l = (x : ℕ) → x < l.concept → bit_of l.bits x ≡ true → AvoidsPairsOf (problem_at l.self.problem l.self.path) l.bits x
