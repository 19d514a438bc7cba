use Rattle.std.proofs.Common.{◌≡◌, sym, ◌∙◌}
use Rattle.world_model.specs.Trial.{points_by_trial}
use Rattle.point_table.proofs.Begins.{full_points}
use Rattle.point_ladder.proofs.start.begin.Goals as goal

pub rows_of-requires : goal.rows_of-requires
rows_of-requires c =
    let p = c.args.problem.now in
    let is : c.in-Some.points.items ≡ points_by_trial p = rw c.in-Some.is at c.in_ok-points.ensures in
    λ k d small. full_points p c.deref-2.result.now (c.deref-2.ensures.value ∙ is) k d small ∙ sym c.concept_count.ensures
