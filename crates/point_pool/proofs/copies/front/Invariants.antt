use Rattle.std.proofs.Common.{◌≡◌, ℕ, ◌<◌, length, get_or}
use Rattle.std.specs.Prelude.{false}
use Rattle.point_pool.proofs.copies.front.Given as goal

abbrev pub invariant-loop-place : goal.invariant-loop-place
invariant-loop-place l = record {
  counted : length l.front ≡ l.count;
  same : (k : ℕ) → k < l.place → get_or l.front k false ≡ get_or l.bits k false;
}
