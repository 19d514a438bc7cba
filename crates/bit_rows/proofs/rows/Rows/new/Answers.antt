use Rattle.bit_rows.proofs.RowBits.{empty_words}
use Rattle.bit_rows.proofs.rows.Rows.new.Goals as goal

pub returns-clause-empty : goal.returns-clause-empty
returns-clause-empty c = empty_words _ c.new.ensures.items
