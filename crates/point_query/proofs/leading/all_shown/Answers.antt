use Rattle.std.proofs.Common.{◌∷◌, ◌++◌, [], sym, subst}
use Rattle.world_model.specs.Alive.{IsAlive, problem_at}
use Rattle.point_query.specs.Queries.{AllLeadOn}
use Rattle.point_query.proofs.Choosing.{all_none}
use Rattle.point_query.proofs.leading.all_shown.Goals as goal

pub loop-rel-init : goal.loop-rel-init
loop-rel-init c =
    let w = c.args.pool.now in
    subst (λ set. AllLeadOn w.cursor.problem w.cursor.path set) (sym c.none-shown.ensures) (all_none (λ rel. IsAlive (problem_at w.cursor.problem (w.cursor.path ++ rel ∷ []))))
