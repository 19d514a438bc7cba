use Rattle.std.proofs.Common.{◌≡◌, ◌≤◌, ◌-◌, length, take}
use Rattle.point_pool.specs.Pools.{IsPool}
use Rattle.point_pool.proofs.pool.Pool.go_to.Given as goal

-- the prefix so far is the front of the one to go to
abbrev pub invariant-loop-self : goal.invariant-loop-self
invariant-loop-self l = record {
  pool : IsPool l.self;
  problem : l.self.cursor.problem ≡ l.fn.self.cursor.problem;
  front : l.self.cursor.path ≡ take (length l.self.cursor.path) l.prefix;
  within : length l.self.cursor.path ≤ length l.prefix;
}

abbrev pub decreases-loop-self : goal.decreases-loop-self
decreases-loop-self l = length l.prefix - length l.self.cursor.path
