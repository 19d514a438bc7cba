use Rattle.bit_rows.specs.Rows.{has_bit}
use Rattle.point_frames.proofs.Kept.{kept_by_must, kept_by_open, not_true}
use Rattle.point_frames.proofs.frame.Frame.is_kept.Goals as goal

pub returns-then-meets : goal.returns-then-meets
returns-then-meets c = λ h some within s.
    kept_by_must c.args.self.now (has_bit c.args.sides.now.left.now) (has_bit c.args.sides.now.right.now) (has_bit c.must-must.result.now) some c.args.region c.region_cell-cell.result
    c.must-must.ensures.bits c.region_cell-cell.ensures (c.meets.ensures.0 c.if-meets.true) s

pub returns-else-meets : goal.returns-else-meets
returns-else-meets c = λ h some within s.
    kept_by_open c.args.self.now (has_bit c.args.sides.now.left.now) (has_bit c.args.sides.now.right.now) some c.args.region c.region_cell-cell.result c.others.result
    c.region_cell-cell.ensures c.others.ensures (λ each. not_true c.open_met.result h (c.open_met.ensures.1 each)) within s
