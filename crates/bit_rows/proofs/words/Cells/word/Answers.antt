use Rattle.bit_rows.proofs.WordBits.{cells_word}
use Rattle.bit_rows.proofs.words.Cells.word.Goals as goal

pub returns : goal.returns
returns c = λ i within.
    cells_word c.args.self c.args.left c.args.right c.if_set.result c.if_set-2.result c.if_set-3.result c.if_set-4.result i c.ranges.left.fits c.ranges.right.fits within
    (c.if_set.ensures i) (c.if_set-2.ensures i) (c.if_set-3.ensures i) (c.if_set-4.ensures i)
