use Rattle.point_encode.proofs.model.Groups.{obey_from, obey_to}
use Rattle.point_encode.proofs.model.Witness.{point_from, bits_of}
use Rattle.point_encode.proofs.model.clauses_are_points.Goals as goal

pub returns : goal.returns
returns c = record {
  obey = λ p built bits counted. (obey_from p built bits, obey_to p built bits);
  points = point_from;
  bits = bits_of;
}
