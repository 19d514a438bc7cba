use Rattle.bit_rows.proofs.WordBits.{with_bit_has}
use Rattle.bit_rows.proofs.words.with_bit.Goals as goal

pub returns : goal.returns
returns c = λ i _. with_bit_has c.args.word c.args.place i c.requires
