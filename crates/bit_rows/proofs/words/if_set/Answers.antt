use Rattle.std.proofs.Common.{◌∙◌, ap, sym, ◌&&◌}
use Rattle.bit_rows.specs.Rows.{word_bit}
use Rattle.bit_rows.proofs.WordBits.{word_zero}
use Rattle.bit_rows.proofs.words.if_set.Goals as goal

pub returns-else-set : goal.returns-else-set
returns-else-set c = λ i. word_zero i ∙ ap (λ b. b && word_bit c.args.word i) (sym c.if-set.false)
