use Rattle.std.proofs.Common.{◌<◌, ◌∙◌, ap, sym, refl, subst}
use Rattle.world_model.specs.Alive.{problem_at}
use Rattle.world_model.specs.Node.{pair_at}
use Rattle.world_model.specs.Problem.{pair_count}
use Rattle.point_pool.proofs.Drafted.{by_number}
use Rattle.point_pool.proofs.Starting.{avoided_pair}
use Rattle.point_pool.proofs.cursor.Cursor.avoids_two.Goals as goal

pub returns : goal.returns
returns c = λ avoids.
    let q = problem_at c.args.self.now.problem c.args.self.now.path in
    let at = ap (λ p. pair_at p c.pair_index.result) (sym c.problem.ensures) ∙ c.pair_index.ensures.at in
    by_number q c.args.bits.now c.args.x c.args.y c.pair_index.result c.requires.order
    (subst (λ p. c.pair_index.result < pair_count p) c.problem.ensures c.pair_index.ensures.within) at
    (sym (avoided_pair q c.args.bits.now c.pair_index.result c.forced_at-regions.result (c.args.x, c.args.y) _ _ c.avoids_by.result c.avoids_by.ensures c.forced_at-regions.ensures (sym at) refl refl) ∙ avoids)
