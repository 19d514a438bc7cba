use Rattle.std.proofs.Common.{ℕ, ◌<◌, ◌≤◌}
use Rattle.bit_rows.specs.Rows.{has_bit}
use Rattle.point_frames.specs.Groups.{IsOpenMet}
use Rattle.point_frames.proofs.base.are_met_from.Given as goal

abbrev pub invariant-loop-row : goal.invariant-loop-row
invariant-loop-row l = (r : ℕ) → l.from ≤ r → r < l.row → IsOpenMet l.rows (has_bit l.left) (has_bit l.sides.left.now) (has_bit l.sides.right.now) l.cells r
