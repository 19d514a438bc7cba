use Rattle.point_encode.proofs.model.NeedLiterals.{need_truth, need_numbered, asked_in_range, asked_consistent}
use Rattle.point_encode.proofs.model.needs_are_literals.Goals as goal

pub returns : goal.returns
returns c = record {
  truth = λ p need bits built numbered. need_truth p need bits numbered;
  numbered = λ p m need built. need_numbered p m need;
  in_range = λ p m need built. asked_in_range p m need;
  consistent = λ p m need built. asked_consistent p m need;
}
