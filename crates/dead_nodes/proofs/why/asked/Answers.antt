use Rattle.std.proofs.Common.{◌∙◌, ap, subst}
use Rattle.std.specs.Prelude.{IfSome}
use Rattle.point_encode.specs.Model.Forced.{need_with}
use Rattle.point_encode.specs.Needs.{need_seen, IsInRange}
use Rattle.point_query.specs.Answers.{IsFirstClosed, IsProbeAnswer}
use Rattle.dead_nodes.specs.Why.{Closes}
use Rattle.cert_rules.proofs.NodeLines.{live_from_one}
use Rattle.dead_nodes.proofs.Reasons.{first_closed}
use Rattle.dead_nodes.proofs.why.asked.Goals as goal

pub returns-in-Some-clause-why : goal.returns-in-Some-clause-why
returns-in-Some-clause-why c =
    let s = c.asked_of_last.new.asker.solver.state in
    let closes : Closes c.args.problem.now s c.args.node.now c.in-Some.reason = subst (λ o. IfSome o (Closes c.args.problem.now s c.args.node.now)) c.in-Some.is c.in_ok-reason.ensures.closed in
    (closes, live_from_one s c.in-Some.reason.clause _ c.facts.ensures.solver.from_one closes.closed)

pub returns-in-Closed-clause-why : goal.returns-in-Closed-clause-why
returns-in-Closed-clause-why c =
    let p = c.args.problem.now in
    let m = c.args.node.now in
    let answer : IsInRange p c.in-Closed.need × IsFirstClosed c.probe.new.self p m (need_seen p c.in-Closed.need) c.in-Closed.clause =
    subst (IsProbeAnswer c.probe.new.self p m) c.in-Closed.is c.in_ok-probe.ensures.answer in
    let first = answer.1 in (
      first_closed c.probe.new.self p m (need_seen p c.in-Closed.need) c.from.result c.in-Closed.clause (ap (need_with p) c.from.ensures ∙ c.need_number.ensures.of) first,
      live_from_one c.probe.new.self.solver.state c.in-Closed.clause _ c.facts-2.ensures.solver.from_one first.closed.named,
    )
