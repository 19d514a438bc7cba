use Rattle.std.proofs.Common.{◌∙◌}
use Rattle.bit_rows.proofs.WordBits.{has_by_word}
use Rattle.bit_rows.proofs.words.has_bit.Goals as goal

pub returns : goal.returns
returns c = c.has.ensures ∙ has_by_word c.args.row.now c.word_at.result c.args.place c.word_at.ensures
