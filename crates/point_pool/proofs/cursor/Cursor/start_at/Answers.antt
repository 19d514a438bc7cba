use Rattle.std.proofs.Common.{◌≡◌, ◌<◌, subst, sym, ◌∙◌}
use Rattle.world_model.specs.Problem.{pair_count}
use Rattle.world_model.specs.Points.{forced_at}
use Rattle.point_pool.proofs.cursor.Cursor.start_at.Goals as goal

pub returns : goal.returns
returns c =
    let s = c.self.inside in
    let within : c.args.pair < pair_count s.problem = subst (λ s. c.args.pair < pair_count s.problem) (sym c.self.view_is) c.requires in
    subst (λ s. c.index.result.now ≡ forced_at s.problem c.args.pair) c.self.view_is (c.index.ensures ∙ c.self.invariant.start_forced.each c.args.pair c.index.result.now within)
