use Rattle.std.proofs.Common.{refl}
use Rattle.point_ladder.proofs.Bounded.{first_bounds}
use Rattle.point_ladder.proofs.bounds.no_bounds.Goals as goal

pub returns-clause-bounds : goal.returns-clause-bounds
returns-clause-bounds c =
    first_bounds c.args.problem.now (record { sets = c.args.sets; count = 0; alive = c.is_alive-alive.result; frame = c.in_ok-frame.frame }) refl c.requires.sets c.is_alive-alive.ensures c.in_ok-frame.ensures
