use Rattle.std.proofs.Common.{◌≡◌, ◌<◌, ◌≤◌, length, take}
use Rattle.point_ladder.specs.Stretches.{stretch_at}
use Rattle.point_ladder.proofs.stretches.cut.Given as goal

-- those that were dropped begin past the length
abbrev pub invariant-loop-stretches : goal.invariant-loop-stretches
invariant-loop-stretches l = record {
  fewer : length l.stretches.items ≤ length l.initial.stretches.items;
  begins : l.stretches.items ≡ take (length l.stretches.items) l.initial.stretches.items;
  high : length l.stretches.items < length l.initial.stretches.items → l.len < (stretch_at l.initial.stretches.items (length l.stretches.items)).from;
}

abbrev pub decreases-loop-stretches : goal.decreases-loop-stretches
decreases-loop-stretches l = length l.stretches.items
