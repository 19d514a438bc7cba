use Rattle.std.proofs.Common.{◌∙◌, ap, sym, refl, [], ◌∷◌, ◌++◌}
use Rattle.world_model.specs.Alive.{problem_at}
use Rattle.point_pool.proofs.Pooling.{point_added, point_long, added_there}
use Rattle.point_pool.proofs.pool.Pool.add.Goals as goal

pub add-requires : goal.add-requires
add-requires c =
    let w = c.args.self.now in
    point_long (problem_at w.cursor.problem w.cursor.path) c.args.bits c.requires.point ∙ sym c.requires.kept.pooled.concepts

pub returns-clause-pool : goal.returns-clause-pool
returns-clause-pool c = λ low high is.
    let w = c.args.self.now in
    point_added c.positions_narrow.ensures w c.args.bits low high c.in_ok-place.place c.add.new.self c.push.new.self is c.facts.ensures c.requires.point c.facts-2.ensures.live c.in_ok-place.ensures
    (c.in_ok-push.ensures.items ∙ ap (λ n. w.serves.items ++ n ∷ []) c.new.ensures)

pub returns-clause-added : goal.returns-clause-added
returns-clause-added c = added_there c.args.self.now.places c.add.new.self _ c.args.bits c.in_ok-place.place c.in_ok-place.ensures refl
