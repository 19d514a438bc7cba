use Rattle.std.proofs.Common.{◌+◌, ◌*◌}
use Rattle.point_table.proofs.grow.+grow.Given as goal

abbrev pub decreases-grow : goal.decreases-grow
decreases-grow l = 2 * l.left + 1

abbrev pub decreases-grow_by : goal.decreases-grow_by
decreases-grow_by l = 2 * l.left
