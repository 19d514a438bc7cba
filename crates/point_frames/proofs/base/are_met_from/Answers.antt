use Rattle.std.proofs.Common.{◌≡◌, ◌&&◌, ℕ, inl, inr, refl, subst, arith}
use Rattle.std.proofs.lemmas.Bool.{false≢true, cases_lt}
use Rattle.bit_rows.specs.Rows.{has_bit, bit_in, in_cells}
use Rattle.point_frames.specs.Groups.{IsOpenMet}
use Rattle.point_frames.proofs.Frames.{some_as, not_met}
use Rattle.point_frames.proofs.base.are_met_from.Goals as goal

pub returns-then-not-meets : goal.returns-then-not-meets
returns-then-not-meets c = (
  λ h. absurd (false≢true h),
  λ all.
      let here = λ (x : _) (k : ℕ). x && has_bit c.args.left.now k && in_cells c.args.cells (has_bit c.args.sides.now.left.now k) (has_bit c.args.sides.now.right.now k) in
      absurd (not_met c.meets.result c.if-not-meets.true (c.meets.ensures.1
      ((some_as here (has_bit c.row.result.now) (bit_in c.args.rows.now c.loop-row.row) c.row.ensures.bits).1 (all c.loop-row.row c.loop-row.auto.row (omega (arith, c.loop-row-test.true, c.count-row-end.ensures)))))),
)

pub loop-row-preserved : goal.loop-row-preserved
loop-row-preserved c = λ r low small. elim (cases_lt r c.loop-row.row) [
  | inl before ↦ c.loop-row.invariant r low before
  | inr last ↦
      let rows = c.args.rows.now in
      let same : c.loop-row.row ≡ r = omega (arith, small, last) in
      let here = λ (x : _) (k : ℕ). x && has_bit c.args.left.now k && in_cells c.args.cells (has_bit c.args.sides.now.left.now k) (has_bit c.args.sides.now.right.now k) in
      subst (IsOpenMet rows (has_bit c.args.left.now) (has_bit c.args.sides.now.left.now) (has_bit c.args.sides.now.right.now) c.args.cells) same
      ((some_as here (has_bit c.row.result.now) (bit_in rows c.loop-row.row) c.row.ensures.bits).0 (c.meets.ensures.0 c.if-not-meets.false))
]

pub returns : goal.returns
returns c = (λ h r low small. c.loop-row.invariant r low (omega (arith, small, c.loop-row-test.false, c.count-row-end.ensures)), λ all. refl)
