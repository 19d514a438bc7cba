use Rattle.std.proofs.Common.{subst}
use Rattle.dead_nodes.specs.Why.{IsWhy}
use Rattle.dead_nodes.specs.declared.why.WhyDead.TheVariants.{NoPoint, NoRelation}
use Rattle.cert_rules.proofs.NodeLines.{named}
use Rattle.world_search.proofs.reasons.reason_line.Goals as goal

pub returns-in-NoRelation-clause-tells : goal.returns-in-NoRelation-clause-tells
returns-in-NoRelation-clause-tells c =
    let p = c.args.problem.now in
    let m = c.args.node.now in
    let why : IsWhy p c.why_dead.new.asker.solver.state m (NoRelation c.in-NoRelation.pair) = subst (IsWhy p c.why_dead.new.asker.solver.state m) c.in-NoRelation.is c.in_ok-why.ensures.why in
    (named m c.depth_of-depth.result c.last_rel-last.result c.depth_of-depth.ensures c.last_rel-last.ensures, why)

pub returns-in-NoPoint-clause-tells : goal.returns-in-NoPoint-clause-tells
returns-in-NoPoint-clause-tells c =
    let p = c.args.problem.now in
    let m = c.args.node.now in
    let why : IsWhy p c.why_dead.new.asker.solver.state m (NoPoint c.in-NoPoint.reason) = subst (IsWhy p c.why_dead.new.asker.solver.state m) c.in-NoPoint.is c.in_ok-why.ensures.why in
    (named m c.depth_of-depth.result c.last_rel-last.result c.depth_of-depth.ensures c.last_rel-last.ensures, why.0)

pub returns-in-NoPoint-clause-ids : goal.returns-in-NoPoint-clause-ids
returns-in-NoPoint-clause-ids c =
    let p = c.args.problem.now in
    let m = c.args.node.now in
    let why : IsWhy p c.why_dead.new.asker.solver.state m (NoPoint c.in-NoPoint.reason) = subst (IsWhy p c.why_dead.new.asker.solver.state m) c.in-NoPoint.is c.in_ok-why.ensures.why in
    why.1
