use Rattle.std.proofs.Common.{ℕ, ◌<◌, get_or}
use Rattle.std.specs.Prelude.{All}
use Rattle.bit_rows.specs.Rows.{has_bit}
use Rattle.point_frames.specs.declared.groups.Group.{Group}
use Rattle.point_frames.specs.Groups.{IsOpenMet}
use Rattle.point_frames.proofs.groups.groups_met.Given as goal

abbrev pub invariant-loop-group : goal.invariant-loop-group
invariant-loop-group l = (k : ℕ) (d : Group) → k < l.group-index → All (IsOpenMet l.rows (has_bit l.left) (has_bit l.sides.left.now) (has_bit l.sides.right.now) l.cells) (get_or l.groups k d).rows.items
