use Rattle.world_model.proofs.PointOnce.{narrowed_inside, narrowed_beyond, at_empty}
use Rattle.world_model.proofs.point_laws.positions_narrow.Goals as goal

pub returns : goal.returns
returns c = record { inside = narrowed_inside; beyond = narrowed_beyond; at_start = at_empty }
