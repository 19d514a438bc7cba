use Rattle.point_pool.proofs.Pooling.{striking_out}
use Rattle.point_pool.proofs.pool.Pool.strike_out.Goals as goal

pub returns-clause-striking : goal.returns-clause-striking
returns-clause-striking c =
    striking_out c.positions_narrow.ensures c.args.self.now c.take_away.new.self c.args.place c.facts.ensures c.requires.striking c.requires.there c.requires.live c.in_ok-take_away.ensures.out
