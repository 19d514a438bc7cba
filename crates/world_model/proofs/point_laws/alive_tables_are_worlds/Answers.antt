use Rattle.world_model.proofs.PointPositions.{world_is_full, world_is_alive, alive_is_world, served_table}
use Rattle.world_model.proofs.point_laws.alive_tables_are_worlds.Goals as goal

pub returns : goal.returns
returns c = record {
  full = world_is_full;
  worlds = λ p problem t n. (world_is_alive p t, alive_is_world p problem t n);
  served = served_table;
}
