use Rattle.std.proofs.Common.{◌≡◌, take, length}
use Rattle.point_table.proofs.grow.bits_of.Given as goal

abbrev pub invariant-loop-place : goal.invariant-loop-place
invariant-loop-place l = record {
  counted : length l.bits ≡ length l.tried;
  same : take l.place l.bits ≡ take l.place l.tried;
}
