use Rattle.bit_rows.specs.Rows.{has_bit}
use Rattle.point_frames.proofs.Kept.{alike_by_three}
use Rattle.point_frames.proofs.frame.Frame.words_left.Goals as goal

pub returns : goal.returns
returns c = λ some within s.
    alike_by_three c.args.words (has_bit c.args.sides.now.left.now) (has_bit c.args.sides.now.right.now) some c.word_left.result c.word_left-2.result c.word_left-3.result
    (c.word_left.ensures some within s) (c.word_left-2.ensures some within s) (c.word_left-3.ensures some within s)
