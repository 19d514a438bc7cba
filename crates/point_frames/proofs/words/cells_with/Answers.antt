use Rattle.rcc5_core.specs.declared.Region.TheVariants.{LeftOnly, Both, RightOnly}
use Rattle.bit_rows.specs.Rows.{has_bit}
use Rattle.point_frames.proofs.Frames.{seen_by_three, cell_seen}
use Rattle.point_frames.proofs.words.cells_with.Goals as goal

pub returns : goal.returns
returns c =
    let row = has_bit c.args.row.now in
    let l = has_bit c.args.sides.now.left.now in
    let r = has_bit c.args.sides.now.right.now in
    seen_by_three row l r c.meets.result c.meets-2.result c.meets-3.result
    (cell_seen row l r LeftOnly c.region_cell.result c.meets.result c.region_cell.ensures c.meets.ensures)
    (cell_seen row l r Both c.region_cell-2.result c.meets-2.result c.region_cell-2.ensures c.meets-2.ensures)
    (cell_seen row l r RightOnly c.region_cell-3.result c.meets-3.result c.region_cell-3.ensures c.meets-3.ensures)
