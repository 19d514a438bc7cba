use Rattle.world_model.proofs.PointNarrowings.{worlds_stay}
use Rattle.world_model.proofs.point_laws.narrowing_keeps_worlds.Goals as goal

pub returns : goal.returns
returns c = worlds_stay
