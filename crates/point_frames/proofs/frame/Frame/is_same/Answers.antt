use Rattle.bit_rows.specs.Rows.{has_bit, bit_in}
use Rattle.point_frames.proofs.Frames.{none_lost}
use Rattle.point_frames.proofs.Kept.{same_narrowed}
use Rattle.point_frames.proofs.frame.Frame.is_same.Goals as goal

pub returns : goal.returns
returns c = λ h.
    let rows = c.args.self.now in
    let l = has_bit c.args.sides.now.left.now in
    let r = has_bit c.args.sides.now.right.now in
    let words = c.args.words in
    let none = none_lost l r words (has_bit c.left-left.result.now) (bit_in rows 0) c.kept_cells.result c.others.result c.meets.result c.kept_cells.ensures c.others.ensures c.left-left.ensures.bits c.meets.ensures c.if-meets.false in
    same_narrowed rows l r words c.words_left.result c.neither.result none c.words_left.ensures c.neither.ensures (c.has_occupied.ensures.0 h)
