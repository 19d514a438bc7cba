use Rattle.std.proofs.Common.{ap}
use Rattle.world_model.specs.Problem.{Problem}
use Rattle.point_encode.specs.Model.Clauses.{given_clauses, variable_count}
use Rattle.point_encode.specs.Model.Forced.{need_with}
use Rattle.point_encode.proofs.model.one_shape_one_list.Goals as goal

pub returns : goal.returns
returns c = record {
  clauses = λ p q same. ap given_clauses same;
  count = λ p q same. ap variable_count same;
  needs = λ p q same number. ap (λ (r : Problem). need_with r number) same;
}
