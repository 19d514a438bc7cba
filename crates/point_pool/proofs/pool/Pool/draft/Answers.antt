use Rattle.point_pool.proofs.Pooling.{pool_drafted}
use Rattle.point_pool.proofs.pool.Pool.draft.Goals as goal

pub returns-clause-pool : goal.returns-clause-pool
returns-clause-pool c = λ low high is. pool_drafted c.args.self.now c.search.new.self low high is
