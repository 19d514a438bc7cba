use Rattle.conflict_min.proofs.Claims.{untouched}
use Rattle.search_log.proofs.Leading.{led_still}
use Rattle.conflict_min.proofs.shown.show_found.Goals as goal

pub returns-then-is_dropping-clause-leads : goal.returns-then-is_dropping-clause-leads
returns-then-is_dropping-clause-leads g c = led_still (g.L.TreeLog.lines c.args.log.now) c.args.asker.now

pub returns-in_err-all-in-Consistent-clause-keeps : goal.returns-in_err-all-in-Consistent-clause-keeps
returns-in_err-all-in-Consistent-clause-keeps g c = untouched _ c.from_residual.result c.args.problem.now _ (g.L.TreeLog.lines c.args.log.now) c.args.asker.now c.from_residual.ensures.1

pub returns-in_err-all-in-Consistent-clause-leads : goal.returns-in_err-all-in-Consistent-clause-leads
returns-in_err-all-in-Consistent-clause-leads g c = led_still (g.L.TreeLog.lines c.args.log.now) c.args.asker.now
