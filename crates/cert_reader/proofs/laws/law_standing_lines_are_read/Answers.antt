use Rattle.cert_reader.proofs.WholeLemmas.{standing_lines_are_read_law}
use Rattle.cert_reader.proofs.laws.law_standing_lines_are_read.Goals as goal

pub returns : goal.returns
returns c = standing_lines_are_read_law
