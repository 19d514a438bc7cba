use Rattle.std.proofs.Common.{◌+◌, ◌*◌, ◌<◌, length, ap, ◌∙◌, subst, sym}
use Rattle.std.specs.Prelude.{IsTrue}
use Rattle.rcc5_core.specs.Region.{row_of}
use Rattle.rcc5_core.specs.RelationSet.{has}
use Rattle.world_model.specs.Problem.{pair_count}
use Rattle.world_model.specs.Node.{pair_at}
use Rattle.world_model.specs.Alive.{allowed}
use Rattle.point_pool.specs.Cursors.{IsOpen}
use Rattle.point_pool.specs.Pools.{AllAvoid, IsPoolBut}
use Rattle.point_pool.proofs.Cursors.{open_more}
use Rattle.point_pool.proofs.Pooling.{pool_more}
use Rattle.point_pool.proofs.pool.Pool.push.Goals as goal

pub want_pair-requires-clause-pool : goal.want_pair-requires-clause-pool
want_pair-requires-clause-pool c =
    let w = c.strike.new.self in
    let stays = sym c.in_ok-strike.ensures.cursor in
    let open_here = subst (λ s. IsOpen s.problem s.path) stays c.facts.ensures in
    let within = subst (λ s. length s.path < pair_count s.problem) stays c.requires.within in
    let allows = subst (λ s. IsTrue (has (allowed s.problem (pair_at s.problem (length s.path))) c.args.rel)) stays c.requires.allowed in
    let opened = open_more w.cursor.problem w.cursor.path c.args.rel open_here within allows in
    let at = subst (λ r. AllAvoid w.places (pair_at c.args.self.now.cursor.problem c.len-pair.result) r) c.row.ensures c.in_ok-strike.ensures.avoid in
    let next = subst (λ n. AllAvoid w.places (pair_at c.args.self.now.cursor.problem n) (row_of c.args.rel)) c.len-pair.ensures at in
    let avoid = subst (λ s. AllAvoid w.places (pair_at s.problem (length s.path)) (row_of c.args.rel)) stays next in
    let pool = pool_more c.positions_narrow.ensures w c.args.rel c.push.new.self open_here opened c.in_ok-strike.ensures.striking avoid c.in_ok-push.ensures.ok in
    subst (λ n. IsPoolBut (record w { cursor = c.push.new.self }) (3 * n) (3 * n + 3)) (ap (λ s. length s.path) (sym stays) ∙ sym c.len-pair.ensures) pool
