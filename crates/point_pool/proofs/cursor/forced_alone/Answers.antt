use Rattle.std.proofs.Common.{ap, ◌∙◌}
use Rattle.rcc5_core.specs.Region.{forced_regions}
use Rattle.point_pool.proofs.Cursors.{regions_more}
use Rattle.point_pool.proofs.cursor.forced_alone.Goals as goal

pub loop-pair-preserved : goal.loop-pair-preserved
loop-pair-preserved c =
    let more = regions_more c.args.problem.now c.loop-pair.regions.items c.forced.result c.loop-pair.pair c.loop-pair.invariant.counted c.loop-pair.invariant.each
    (c.forced.ensures ∙ ap forced_regions c.allowed.ensures) in
    rw c.in_ok-push.ensures.items (record { counted = more.0; each = more.1 })
