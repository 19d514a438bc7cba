use Rattle.world_model.proofs.PointNarrowings.{alive_alone}
use Rattle.world_model.proofs.point_laws.dead_alone_is_dead_below.Goals as goal

pub returns : goal.returns
returns c = record { below = λ p m rest rel short dead alive. dead (alive_alone p m rest rel short alive); alone = alive_alone }
