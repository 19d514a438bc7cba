use Rattle.std.proofs.Common.{◌≡◌, ◌&&◌, ℕ, get_or, inl, inr, subst, arith}
use Rattle.std.proofs.lemmas.Bool.{false≢true, cases_lt}
use Rattle.std.proofs.lemmas.List.{get_or_default}
use Rattle.bit_rows.specs.Rows.{has_bit, bit_in, in_cells}
use Rattle.point_frames.specs.Groups.{IsOpenMet}
use Rattle.point_frames.proofs.Frames.{some_as, not_met}
use Rattle.point_frames.proofs.groups.are_met.Goals as goal

pub returns-then-not-meets : goal.returns-then-not-meets
returns-then-not-meets c = (
  λ h. absurd (false≢true h),
  λ all.
      let at = get_or c.args.list.now c.loop-row.row-index 0 in
      let here = λ (x : _) (k : ℕ). x && has_bit c.args.left.now k && in_cells c.args.cells (has_bit c.args.sides.now.left.now k) (has_bit c.args.sides.now.right.now k) in
      absurd (not_met c.meets.result c.if-not-meets.true (c.meets.ensures.1
      ((some_as here (has_bit c.row.result.now) (bit_in c.args.rows.now at) c.row.ensures.bits).1 (all c.loop-row.row-index 0 c.loop-row-test.true)))),
)

pub loop-row-preserved : goal.loop-row-preserved
loop-row-preserved c = λ k d small. elim (cases_lt k c.loop-row.row-index) [
  | inl before ↦ c.loop-row.invariant k d before
  | inr last ↦
      let rows = c.args.rows.now in
      let at = get_or c.args.list.now c.loop-row.row-index 0 in
      let same : c.loop-row.row-index ≡ k = omega (arith, small, last) in
      let met = IsOpenMet rows (has_bit c.args.left.now) (has_bit c.args.sides.now.left.now) (has_bit c.args.sides.now.right.now) c.args.cells in
      let here = λ (x : _) (k : ℕ). x && has_bit c.args.left.now k && in_cells c.args.cells (has_bit c.args.sides.now.left.now k) (has_bit c.args.sides.now.right.now k) in
      subst (λ (q : ℕ). met (get_or c.args.list.now q d)) same
      (subst met (get_or_default c.args.list.now c.loop-row.row-index 0 d c.loop-row-test.true)
      ((some_as here (has_bit c.row.result.now) (bit_in rows at) c.row.ensures.bits).0 (c.meets.ensures.0 c.if-not-meets.false)))
]
