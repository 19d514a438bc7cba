use Rattle.std.proofs.Common.{take}
use Rattle.point_frames.specs.Groups.{AreSplit}
use Rattle.point_frames.proofs.groups.split.Given as goal

abbrev pub invariant-loop-row : goal.invariant-loop-row
invariant-loop-row l = AreSplit l.rows (take l.row-index l.list) l.place l.with.items l.without.items
