use Rattle.std.proofs.Common.{ℕ, ◌<◌, get_or}
use Rattle.bit_rows.specs.Rows.{has_bit}
use Rattle.point_frames.specs.Groups.{IsOpenMet}
use Rattle.point_frames.proofs.groups.are_met.Given as goal

abbrev pub invariant-loop-row : goal.invariant-loop-row
invariant-loop-row l = (k d : ℕ) → k < l.row-index → IsOpenMet l.rows (has_bit l.left) (has_bit l.sides.left.now) (has_bit l.sides.right.now) l.cells (get_or l.list k d)
