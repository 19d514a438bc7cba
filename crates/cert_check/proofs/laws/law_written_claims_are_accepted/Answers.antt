use Rattle.cert_check.proofs.WrittenClaims.{written_claims_are_accepted_law}
use Rattle.cert_check.proofs.laws.law_written_claims_are_accepted.Goals as goal

pub returns : goal.returns
returns c = written_claims_are_accepted_law
