use Rattle.point_pool.specs.Pools.{AreGathered}
use Rattle.point_pool.proofs.pool.Pool.gathered.Given as goal

-- the witnesses of the needs so far are gathered
abbrev pub invariant-loop-number : goal.invariant-loop-number
invariant-loop-number l = AreGathered l.self l.number l.list.items l.taken.items
