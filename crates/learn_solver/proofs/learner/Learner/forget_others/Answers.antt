use Rattle.std.proofs.Common.{◌∙◌, length, ap, arith}
use Rattle.watch_arena.specs.Trails.{TrailState}
use Rattle.learn_solver.proofs.RemainingRecords.{none-reason, stays-index, nth-some}
use Rattle.learn_solver.proofs.learner.Learner.forget_others.Goals as goal

pub forget-requires-clause-no_reason : goal.forget-requires-clause-no_reason
forget-requires-clause-no_reason c =
    let all = c.requires.kept.all in
    let count = c.count-number-end.ensures in
    let size = ap length c.arena.ensures in
    let test = c.loop-number-test.true in
    let at = nth-some c.loop-number.number (length c.arena-in-loop-number.result.now) c.in-Some.at c.nth.result c.nth.ensures c.in-Some.is in
    none-reason c.args.self.now.trail c.loop-number.self.trail c.args.kept.now c.loop-number.number c.in-Some.at c.requires.kept (omega arith)
    (stays-index c.args.kept.now c.loop-number.number _ _ (omega arith) c.if-not-kept-number.true) at
    (ap (λ (t : TrailState). t.places) c.loop-number.invariant.forgets.same)
