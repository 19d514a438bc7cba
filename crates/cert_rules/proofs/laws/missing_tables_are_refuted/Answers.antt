use Rattle.cert_rules.proofs.Refutations.{missing_are_refuted_law}
use Rattle.cert_rules.proofs.laws.missing_tables_are_refuted.Goals as goal

pub returns : goal.returns
returns c = missing_are_refuted_law
