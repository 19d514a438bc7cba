use Rattle.std.proofs.Common.{◌∙◌, ◌++◌, ◌+◌, ℕ, List, Vec, Global, length, drop, sym, ap, arith}
use Rattle.learn_solver.specs.States.{gone_from}
use Rattle.learn_solver.specs.Learners.{stays_by}
use Rattle.clause_arena.specs.Records.{Record, record_at}
use Rattle.learn_solver.proofs.RemainingRecords.{gone-stays, gone-more, stays-index, nth-some, nth-none}
use Rattle.learn_solver.proofs.learner.Learner.other_ids.Goals.{in-Some+then-not-kept-number+in_ok-push, in-Some+else-not-kept-number, in_default}
use Rattle.learn_solver.proofs.learner.Learner.other_ids.Goals as goal

pub loop-number-preserved : goal.loop-number-preserved
loop-number-preserved c =
    let l = c.args.self.now in
    let all = c.requires.all in
    let size = ap length c.arena.ensures in
    let count = c.count-number-end.ensures in
    let test = c.loop-number-test.true in
    let records = ap length c.arena-in-loop-number.ensures in
    elim c.match-nth.branch [
      | in-Some+then-not-kept-number+in_ok-push w ↦
          let at = nth-some c.loop-number.number (length c.arena-in-loop-number.result.now) w.in-Some.at c.nth.result c.nth.ensures w.in-Some.is in
          gone-more (stays_by c.args.kept.now) l.trail.records l.given c.loop-number.number w.id_of.result c.loop-number.ids.items c.match-nth.ids.items c.loop-number.invariant (omega arith)
          (stays-index c.args.kept.now c.loop-number.number _ _ (omega arith) w.if-not-kept-number.true)
          (w.id_of.ensures ∙ ap (λ (rs : List Record). (record_at rs w.in-Some.at).id) w.arena-then-not-kept-number.ensures ∙ ap (λ (n : ℕ). (record_at l.trail.records n).id) at)
          (ap (λ (v : Vec ℕ Global). v.items) w.ids-is ∙ w.in_ok-push.ensures.items)
      | in-Some+else-not-kept-number w ↦
          ap (λ (v : Vec ℕ Global). v.items ++ gone_from (stays_by c.args.kept.now) (c.loop-number.number + 1) (drop (c.loop-number.number + 1) l.trail.records)) w.ids-is
          ∙ gone-stays (stays_by c.args.kept.now) l.trail.records l.given c.loop-number.number c.loop-number.ids.items c.loop-number.invariant (omega arith)
          (stays-index c.args.kept.now c.loop-number.number _ _ (omega arith) w.if-not-kept-number.false)
      | in_default w ↦ absurd (nth-none c.loop-number.number (length c.arena-in-loop-number.result.now) c.nth.result c.nth.ensures w.in_default.is (omega arith))
    ]
