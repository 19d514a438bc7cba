use Rattle.std.proofs.Common.{ℕ, ◌<◌}
use Rattle.world_model.specs.Alive.{problem_at}
use Rattle.point_pool.specs.Drafted.{AvoidsPair}
use Rattle.point_pool.proofs.cursor.Cursor.avoids_pairs_of.Given as goal

abbrev pub invariant-loop-other : goal.invariant-loop-other
invariant-loop-other l = (y : ℕ) → y < l.other → AvoidsPair (problem_at l.self.problem l.self.path) l.bits l.concept y
