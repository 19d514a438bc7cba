use Rattle.std.proofs.Common.{subst}
use Rattle.world_search.specs.Logging.{KeepsPast}
use Rattle.world_search.proofs.tell.tell_branch.Goals as goal

pub returns-clause-keeps : goal.returns-clause-keeps
returns-clause-keeps g c =
    subst (KeepsPast c.args.problem.now c.put_node.result (g.L.TreeLog.lines c.args.log.now) (g.L.TreeLog.lines c.put_node.new.log) c.args.asker.now c.put_node.new.asker c.args.node.now)
    c.branch_line-line.ensures.branches
    (c.put_node.ensures.keeps c.args.problem.now c.args.node.now (c.branch_line-line.ensures.tells c.args.asker.now.solver.state))
