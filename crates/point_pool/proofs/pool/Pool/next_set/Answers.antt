use Rattle.std.proofs.Common.{◌∙◌, ap}
use Rattle.world_model.specs.Node.{pair_at}
use Rattle.world_model.specs.Alive.{allowed}
use Rattle.point_pool.proofs.pool.Pool.next_set.Goals as goal

pub returns : goal.returns
returns c =
    c.allowed.ensures ∙ ap (λ q. allowed q (pair_at q c.len.result)) c.problem.ensures ∙ ap (λ n. allowed c.args.self.now.cursor.problem (pair_at c.args.self.now.cursor.problem n)) c.len.ensures
