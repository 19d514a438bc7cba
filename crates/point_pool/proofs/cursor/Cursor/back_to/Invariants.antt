use Rattle.std.proofs.Common.{◌≡◌, ◌≤◌, length, take}
use Rattle.point_pool.proofs.cursor.Cursor.back_to.Given as goal

abbrev pub invariant-loop-self : goal.invariant-loop-self
invariant-loop-self l = record {
  problem : l.self.problem ≡ l.fn.self.problem;
  path : l.self.path ≡ take (length l.self.path) l.fn.self.path;
  fewer : l.count ≤ length l.self.path;
  within : length l.self.path ≤ length l.fn.self.path;
}

abbrev pub decreases-loop-self : goal.decreases-loop-self
decreases-loop-self l = length l.self.path
