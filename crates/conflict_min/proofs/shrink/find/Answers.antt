use Rattle.conflict_min.proofs.Claims.{untouched}
use Rattle.search_log.proofs.Leading.{led_still}
use Rattle.conflict_min.proofs.shrink.find.Goals as goal

pub returns-in_err-outcome-clause-keeps : goal.returns-in_err-outcome-clause-keeps
returns-in_err-outcome-clause-keeps g c =
    untouched _ c.from_residual.result c.args.problem.now _ (g.L.TreeLog.lines c.args.log.now) c.args.asker.now c.from_residual.ensures.1

pub returns-in_err-outcome-clause-leads : goal.returns-in_err-outcome-clause-leads
returns-in_err-outcome-clause-leads g c = led_still (g.L.TreeLog.lines c.args.log.now) c.args.asker.now
