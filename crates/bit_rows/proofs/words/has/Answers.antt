use Rattle.bit_rows.proofs.WordBits.{shifted_has}
use Rattle.bit_rows.proofs.words.has.Goals as goal

pub returns : goal.returns
returns c = shifted_has c.args.word c.args.place
