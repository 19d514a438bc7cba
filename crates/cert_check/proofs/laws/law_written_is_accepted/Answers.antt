use Rattle.cert_check.proofs.WrittenLemmas.{written_is_accepted_law}
use Rattle.cert_check.proofs.laws.law_written_is_accepted.Goals as goal

pub returns : goal.returns
returns c = written_is_accepted_law
