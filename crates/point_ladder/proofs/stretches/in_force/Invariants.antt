use Rattle.std.proofs.Common.{◌<◌, ◌+◌, length}
use Rattle.point_ladder.specs.Stretches.{stretch_at}
use Rattle.point_ladder.proofs.stretches.in_force.Given as goal

-- all behind the place begin later
abbrev pub invariant-loop-last : goal.invariant-loop-last
invariant-loop-last l = record {
  within : l.last < length l.fn.stretches;
  later : l.last + 1 < length l.fn.stretches → l.fn.len < (stretch_at l.fn.stretches (l.last + 1)).from;
}

abbrev pub decreases-loop-last : goal.decreases-loop-last
decreases-loop-last l = l.last
