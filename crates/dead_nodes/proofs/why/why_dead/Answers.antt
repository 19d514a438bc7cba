use Rattle.std.proofs.Common.{subst}
use Rattle.std.specs.Prelude.{IfSome}
use Rattle.dead_nodes.specs.Why.{Closes}
use Rattle.cert_rules.proofs.NodeLines.{live_from_one}
use Rattle.dead_nodes.proofs.why.why_dead.Goals as goal

pub returns-in-Some-clause-why : goal.returns-in-Some-clause-why
returns-in-Some-clause-why c =
    let s = c.known.new.asker.solver.state in
    let closes : Closes c.args.problem.now s c.args.node.now c.in-Some.reason = subst (λ o. IfSome o (Closes c.args.problem.now s c.args.node.now)) c.in-Some.is c.in_ok-reason.ensures.closed in
    (closes, live_from_one s c.in-Some.reason.clause _ c.facts.ensures.solver.from_one closes.closed)
