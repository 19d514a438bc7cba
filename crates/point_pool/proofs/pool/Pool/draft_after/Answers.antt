use Rattle.point_pool.proofs.Losing.{off_cursor, pool_redrafted}
use Rattle.point_pool.proofs.pool.Pool.draft_after.Goals as goal

pub returns-clause-pool : goal.returns-clause-pool
returns-clause-pool c =
    let w = c.args.self.now in
    pool_redrafted w c.back_to.new.self c.back_to-2.new.self
    (off_cursor w.cursor c.push.new.self c.back_to.new.self c.args.rel c.len-pair.result c.len-pair.ensures c.in_ok-push.ensures.ok c.back_to.ensures) c.requires.pool

pub returns-clause-cursor : goal.returns-clause-cursor
returns-clause-cursor c =
    let w = c.args.self.now in
    off_cursor w.cursor c.push.new.self c.back_to.new.self c.args.rel c.len-pair.result c.len-pair.ensures c.in_ok-push.ensures.ok c.back_to.ensures
