use Rattle.world_model.specs.Alive.{problem_at}
use Rattle.point_encode.specs.Numbers.{EachServed, needs_below}
use Rattle.point_pool.proofs.pool.Pool.witnesses.Given as goal

-- the needs so far have their points
abbrev pub invariant-loop-number : goal.invariant-loop-number
invariant-loop-number l = EachServed (problem_at l.self.cursor.problem l.self.cursor.path) (needs_below (problem_at l.self.cursor.problem l.self.cursor.path) l.number) l.list.items
