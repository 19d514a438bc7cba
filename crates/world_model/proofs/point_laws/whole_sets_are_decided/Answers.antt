use Rattle.world_model.proofs.PointAlive.{met_is_alive}
use Rattle.world_model.proofs.PointServed.{alive_is_met, served_meets}
use Rattle.world_model.proofs.point_laws.whole_sets_are_decided.Goals as goal

pub returns : goal.returns
returns c = record {
  met = met_is_alive;
  alive = alive_is_met;
  served = served_meets;
}
