use Rattle.std.proofs.Common.{◌∙◌, subst}
use Rattle.point_query.specs.Answers.{IsProbeAnswer}
use Rattle.split_search.specs.Walking.{split_tree}
use Rattle.cert_rules.proofs.NodeLines.{live_from_one}
use Rattle.split_search.proofs.Lines.{alive_here, tells_pair, tells_need}
use Rattle.split_search.proofs.reason.reason_line.Goals as goal

pub unreachable-requires : goal.unreachable-requires
unreachable-requires c =
    let node = c.node-node.result.now in
    c.requires.dead (alive_here (split_tree c.args.walk.now.subject) c.args.walk.now.path node c.new.result (c.node-node.ensures, c.new.ensures)
    (subst (IsProbeAnswer c.probe-2.new.self node c.new.result) c.in-Alive.is c.in_ok-probe.ensures.answer))

pub need_number-requires : goal.need_number-requires
need_number-requires c = (subst (IsProbeAnswer c.probe-2.new.self c.node-node.result.now c.new.result) c.in-Closed.is c.in_ok-probe.ensures.answer).0

pub returns-in-EmptyPair-clause-tells : goal.returns-in-EmptyPair-clause-tells
returns-in-EmptyPair-clause-tells c =
    let node = c.node-node.result.now in
    tells_pair (split_tree c.args.walk.now.subject) c.args.walk.now.path node c.new.result c.probe-2.new.self.solver.state c.depth-depth.result c.last-last.result c.in-EmptyPair.pair
    (c.node-node.ensures, c.new.ensures) c.depth-depth.ensures c.last-last.ensures (subst (IsProbeAnswer c.probe-2.new.self node c.new.result) c.in-EmptyPair.is c.in_ok-probe.ensures.answer)

pub returns-in-Closed-clause-tells : goal.returns-in-Closed-clause-tells
returns-in-Closed-clause-tells c =
    let node = c.node-node.result.now in
    let answer = subst (IsProbeAnswer c.probe-2.new.self node c.new.result) c.in-Closed.is c.in_ok-probe.ensures.answer in
    tells_need (split_tree c.args.walk.now.subject) c.args.walk.now.path node c.new.result c.probe-2.new.self c.depth-depth.result c.last-last.result c.in-Closed.need c.in-Closed.clause c.from.result
    (c.node-node.ensures, c.new.ensures) c.depth-depth.ensures c.last-last.ensures (c.from.ensures ∙ c.need_number.ensures.number) answer.0 answer.1

pub returns-in-Closed-clause-ids : goal.returns-in-Closed-clause-ids
returns-in-Closed-clause-ids c =
    let answer = subst (IsProbeAnswer c.probe-2.new.self c.node-node.result.now c.new.result) c.in-Closed.is c.in_ok-probe.ensures.answer in
    live_from_one c.probe-2.new.self.solver.state c.in-Closed.clause _ c.facts.ensures.solver.from_one answer.1.closed.named
