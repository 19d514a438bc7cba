use Rattle.std.proofs.Common.{ℕ, ◌<◌, ◌≤◌, ◌&&◌}
use Rattle.bit_rows.specs.Rows.{has_bit, bit_in, in_cells, SomePlace}
use Rattle.point_frames.specs.Frames.{IsOwing}
use Rattle.point_frames.proofs.builder.Builder.add_open.Given as goal

abbrev pub invariant-loop-row : goal.invariant-loop-row
invariant-loop-row l = IsOwing l.initial.self.rows l.self.rows (λ some. (r : ℕ) → 2 ≤ r → r < l.row → SomePlace (λ k. (bit_in l.more r k && has_bit l.left k && in_cells l.cells (has_bit l.sides.left.now k) (has_bit l.sides.right.now k)) && some k))
