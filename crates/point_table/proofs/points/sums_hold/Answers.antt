use Rattle.std.proofs.Common.{◌≡◌, ◌+◌, ◌∙◌, sym, true, false, ◌&&◌, arith}
use Rattle.world_model.specs.Problem.{kept_articulations}
use Rattle.world_model.specs.Points.{sums_from}
use Rattle.constraint_set.proofs.PointTests.{sums_done, sums_all}
use Rattle.point_table.proofs.points.sums_hold.Goals as goal

pub returns-then-not-holds_if_kept : goal.returns-then-not-holds_if_kept
returns-then-not-holds_if_kept c =
    let p = c.args.problem.now in
    let bits = c.args.bits.now in
    let step : sums_from bits p c.loop-index.index ≡ (false && sums_from bits p (c.loop-index.index + 1)) = c.if-not-holds_if_kept.ensures in
    sym step ∙ c.loop-index.invariant ∙ sums_all bits (kept_articulations p)

pub loop-index-preserved : goal.loop-index-preserved
loop-index-preserved c =
    let p = c.args.problem.now in
    let bits = c.args.bits.now in
    let step : sums_from bits p c.loop-index.index ≡ (true && sums_from bits p (c.loop-index.index + 1)) = c.if-not-holds_if_kept.ensures in
    sym step ∙ c.loop-index.invariant

pub returns : goal.returns
returns c =
    let p = c.args.problem.now in
    let bits = c.args.bits.now in
    sym (sums_done bits p c.loop-index.index (omega arith)) ∙ c.loop-index.invariant ∙ sums_all bits (kept_articulations p)
