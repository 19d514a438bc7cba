use Rattle.std.proofs.Common.{◌<◌, ◌++◌, ◌∷◌, [], ◌∙◌, cond, ap, subst}
use Rattle.rcc5_core.specs.Region.{forced_regions}
use Rattle.world_model.specs.Points.{forced_at, has_empty}
use Rattle.constraint_set.proofs.PointTests.{pairs_more}
use Rattle.point_table.proofs.points.pairs_with_empty.Goals as goal

pub loop-pair-preserved : goal.loop-pair-preserved
loop-pair-preserved c =
    let p = c.args.problem.now in
    let i = c.loop-pair.pair in
    pairs_more (λ pair. has_empty (forced_at p pair)) c.loop-pair.pairs.items c.add_if_empty.new.pairs.items i c.loop-pair.invariant
    (c.in_ok-add_if_empty.ensures ∙ ap (λ r. c.loop-pair.pairs.items ++ cond (has_empty r) (i ∷ []) [])
    (c.forced.ensures ∙ ap forced_regions (c.requires.each i _ (subst (λ n. i < n) c.pair_count-pair-end.ensures c.loop-pair-test.true))))
