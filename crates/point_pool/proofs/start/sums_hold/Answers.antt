use Rattle.std.proofs.Common.{◌≡◌, ◌+◌, ◌∙◌, sym, true, ◌&&◌, arith}
use Rattle.world_model.specs.Problem.{kept_articulations}
use Rattle.world_model.specs.Points.{sums_from}
use Rattle.constraint_set.proofs.PointTests.{sums_done, sums_all}
use Rattle.point_pool.proofs.start.sums_hold.Goals as goal

pub loop-index-preserved : goal.loop-index-preserved
loop-index-preserved c =
    let p = c.args.problem.now in
    let bits = c.args.bits.now in
    let step : sums_from bits p c.loop-index.index ≡ (true && sums_from bits p (c.loop-index.index + 1)) = c.if-not-holds_if_kept.ensures in
    sym step ∙ c.loop-index.invariant

pub returns : goal.returns
returns c = λ _.
    let p = c.args.problem.now in
    let bits = c.args.bits.now in
    sym (sums_all bits (kept_articulations p)) ∙ sym c.loop-index.invariant ∙ sums_done bits p c.loop-index.index (omega arith)
