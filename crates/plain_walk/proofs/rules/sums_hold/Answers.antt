use Rattle.std.proofs.Common.{◌≡◌, ◌+◌, ◌∙◌, sym, true, false, ◌&&◌, arith}
use Rattle.world_model.specs.Problem.{kept_articulations}
use Rattle.plain_walk.specs.Plain.{sums_from}
use Rattle.plain_walk.proofs.PlainStatements.{sums_done, sums_all}
use Rattle.plain_walk.proofs.rules.sums_hold.Goals as goal

pub loop-index-preserved : goal.loop-index-preserved
loop-index-preserved c =
    let p = c.args.problem.now in
    let bits = c.args.bits.now in
    let step : sums_from bits p c.loop-index.index ≡ (true && sums_from bits p (c.loop-index.index + 1)) = c.if-not-holds_if_kept.ensures in
    sym step ∙ c.loop-index.invariant

pub returns-then-not-holds_if_kept : goal.returns-then-not-holds_if_kept
returns-then-not-holds_if_kept c =
    let p = c.args.problem.now in
    let bits = c.args.bits.now in
    let step : sums_from bits p c.loop-index.index ≡ (false && sums_from bits p (c.loop-index.index + 1)) = c.if-not-holds_if_kept.ensures in
    sym (sym (sums_all bits (kept_articulations p)) ∙ sym c.loop-index.invariant ∙ step)

pub returns : goal.returns
returns c =
    let p = c.args.problem.now in
    let bits = c.args.bits.now in
    sym (sym (sums_all bits (kept_articulations p)) ∙ sym c.loop-index.invariant ∙ sums_done bits p c.loop-index.index (omega arith))
