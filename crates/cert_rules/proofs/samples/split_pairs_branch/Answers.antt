use Rattle.std.proofs.Common.{refl}
use Rattle.lits_core.specs.Literals.{negation_of}
use Rattle.cert_rules.proofs.samples.split_pairs_branch.Goals as goal

pub returns : goal.returns
unfolding negation_of
returns c = refl
