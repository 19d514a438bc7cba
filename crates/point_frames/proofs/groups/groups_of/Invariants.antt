use Rattle.std.proofs.Common.{length}
use Rattle.point_frames.proofs.Grouped.{AreSoFar}
use Rattle.point_frames.proofs.groups.groups_of.Given as goal

abbrev pub invariant-loop-alloc : goal.invariant-loop-alloc
invariant-loop-alloc l = AreSoFar l.rows l.groups.items l.rest.items

abbrev pub decreases-loop-alloc : goal.decreases-loop-alloc
decreases-loop-alloc l = length l.rest.items
