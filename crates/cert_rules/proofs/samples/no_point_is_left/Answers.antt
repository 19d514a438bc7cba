use Rattle.std.proofs.Common.{refl}
use Rattle.lits_core.specs.Literals.{negation_of}
use Rattle.cert_rules.proofs.samples.no_point_is_left.Goals as goal

pub returns : goal.returns
unfolding negation_of
returns c = record {
  derived = refl;
  unknown_hint = refl;
  not_unit = refl;
  no_conflict = refl;
  used = refl;
  forgotten = refl;
  other_need = refl;
  given = refl;
}
