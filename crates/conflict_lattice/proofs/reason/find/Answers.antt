use Rattle.conflict_min.proofs.Claims.{untouched}
use Rattle.search_log.proofs.Logs.{log_stays_ok}
use Rattle.conflict_lattice.proofs.reason.find.Goals as goal

pub returns-in_err-own-clause-keeps : goal.returns-in_err-own-clause-keeps
returns-in_err-own-clause-keeps g c =
    untouched _ c.from_residual-in_err-own.result c.args.problem.now _ (g.L.TreeLog.lines c.args.log.now) c.args.asker.now c.from_residual-in_err-own.ensures.1

pub returns-in_err-find_with-2-clause-keeps : goal.returns-in_err-find_with-2-clause-keeps
returns-in_err-find_with-2-clause-keeps g c =
    untouched _ c.from_residual-in_err-find_with-2.result c.args.problem.now _ (g.L.TreeLog.lines c.args.log.now) c.args.asker.now c.from_residual-in_err-find_with-2.ensures.1

pub returns-clause-log : goal.returns-clause-log
returns-clause-log g c = log_stays_ok _ c.args.log.now (g.met.L.TreeLog.steady_stays c.args.log.now) (g.met.L.TreeLog.quiet_stays c.args.log.now)
