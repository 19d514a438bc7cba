use Rattle.world_model.proofs.Members.{in_from_contains, contains_from_in}
use Rattle.world_model.proofs.PointPairs.{In-pairs, from_pairs}
use Rattle.world_model.proofs.PointOnce.{pairs_once, pairs_number}
use Rattle.world_model.specs.Problem.{pairs}
use Rattle.world_model.proofs.point_laws.pairs_stand_once.Goals as goal

pub returns : goal.returns
returns c = record {
  there = λ p i j order within. contains_from_in (In-pairs p (i, j) (record { order = order; within = within }));
  no_others = λ p i j h. let pair = from_pairs p (i, j) (in_from_contains (pairs p) h) in (pair.order, pair.within);
  once = pairs_once;
  number = pairs_number;
}
