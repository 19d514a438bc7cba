use Rattle.std.proofs.Common.{◌≡◌, ◌≤◌, ◌-◌, length, take}
use Rattle.point_ladder.specs.Ladders.{BeginsNone}
use Rattle.world_walk.proofs.retreat.barren_len.Given as goal

-- no world begins with so many relations
abbrev pub invariant-loop-low : goal.invariant-loop-low
invariant-loop-low l = record {
  same : l.along ≡ l.fn.along;
  within : l.high ≤ length l.fn.along.path;
  barren : BeginsNone l.fn.along.problem (take l.high l.fn.along.path);
}

abbrev pub decreases-loop-low : goal.decreases-loop-low
decreases-loop-low l = l.high - l.low
