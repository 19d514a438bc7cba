use Rattle.std.proofs.Common.{ℕ, ◌<◌, get_or}
use Rattle.std.specs.Prelude.{Contains}
use Rattle.point_pool.proofs.waiting.push_each.Given as goal

abbrev pub invariant-loop-number : goal.invariant-loop-number
invariant-loop-number l = record {
  there : (k : ℕ) → k < l.number-index → Contains l.waiting (get_or l.numbers k 0);
  stay : (number : ℕ) → Contains l.fn.waiting number → Contains l.waiting number;
}
