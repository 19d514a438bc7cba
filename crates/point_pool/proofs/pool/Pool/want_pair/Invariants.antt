use Rattle.std.proofs.Common.{◌≡◌, ◌+◌, ◌*◌, ◌≤◌}
use Rattle.point_pool.specs.Pools.{IsPoolBut}
use Rattle.point_pool.proofs.pool.Pool.want_pair.Given as goal

abbrev pub invariant-loop-number : goal.invariant-loop-number
invariant-loop-number l = record {
  pool : IsPoolBut l.self l.number (3 * l.pair + 3);
  cursor : l.self.cursor ≡ l.fn.self.cursor;
  upto : l.number ≤ 3 * l.pair + 3;
}
