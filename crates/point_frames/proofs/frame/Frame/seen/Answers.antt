use Rattle.bit_rows.specs.Rows.{has_bit}
use Rattle.point_frames.specs.Frames.{left_of, must_of}
use Rattle.point_frames.proofs.Frames.{seen_as}
use Rattle.point_frames.proofs.frame.Frame.seen.Goals as goal

pub returns : goal.returns
returns c =
    let l = has_bit c.args.sides.now.left.now in
    let r = has_bit c.args.sides.now.right.now in
    record {
      all = seen_as (has_bit c.left.result.now) (left_of c.args.self.now) l r c.cells_with.result c.left.ensures.bits c.cells_with.ensures;
      must = seen_as (has_bit c.must.result.now) (must_of c.args.self.now) l r c.cells_with-2.result c.must.ensures.bits c.cells_with-2.ensures;
    }
