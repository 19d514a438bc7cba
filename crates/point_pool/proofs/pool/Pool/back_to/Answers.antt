use Rattle.point_pool.proofs.Pooling.{pool_back}
use Rattle.point_pool.proofs.pool.Pool.back_to.Goals as goal

pub returns-clause-pool : goal.returns-clause-pool
returns-clause-pool c =
    pool_back c.positions_narrow.ensures c.args.self.now c.args.count c.mark_at-start.result c.back_to.new.self c.unstrike.new.places c.unstrike.new.struck c.truncate.new.self c.back_to-2.new.self
    c.requires.pool c.facts.ensures c.requires.count c.back_to.ensures c.unstrike.ensures.concepts c.unstrike.ensures.points c.unstrike.ensures.used c.unstrike.ensures.stay c.unstrike.ensures.live
    c.mark_at-start.ensures c.unstrike.ensures.struck c.truncate.ensures.items
