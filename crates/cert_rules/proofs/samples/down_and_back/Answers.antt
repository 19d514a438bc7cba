use Rattle.std.proofs.Common.{refl}
use Rattle.lits_core.specs.Literals.{negation_of}
use Rattle.cert_rules.proofs.samples.down_and_back.Goals as goal

pub returns : goal.returns
unfolding negation_of
returns c = record {
  back = refl;
  beside = refl;
  too_early = refl;
}
