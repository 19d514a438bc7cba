use Rattle.std.proofs.Common.{◌≤◌}
use Rattle.point_frames.specs.Groups.{AreOpen, HasOpen}
use Rattle.point_frames.proofs.groups.open_rows.Given as goal

abbrev pub invariant-loop-row : goal.invariant-loop-row
invariant-loop-row l = record {
  open_rows : AreOpen l.row l.list.items;
  all : HasOpen l.row l.list.items;
  two : 2 ≤ l.row;
}
