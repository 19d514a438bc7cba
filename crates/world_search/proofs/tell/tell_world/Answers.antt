use Rattle.std.proofs.Common.{◌≡◌, false, Some, refl, sym, ◌∙◌, subst}
use Rattle.cert_rules.specs.Listings.{listing_next}
use Rattle.search_log.specs.declared.fault.StepFault.TheVariants.{NoMemory}
use Rattle.world_search.specs.Logging.{KeepsPast}
use Rattle.world_search.proofs.Telling.{keeps_err, keeps_same, keeps_untold}
use Rattle.search_log.proofs.Logs.{log_stays_ok, log_memory}
use Rattle.world_search.proofs.tell.tell_world.Goals as goal

pub returns-then-is_dropping-clause-keeps : goal.returns-then-is_dropping-clause-keeps
returns-then-is_dropping-clause-keeps g c = λ from.
    keeps_untold c.args.problem.now from (g.L.TreeLog.lines c.args.log.now) (g.L.TreeLog.lines c.args.log.now) c.args.asker.now c.clear_lines.new.self
    (Some c.args.node.now) (listing_next c.args.problem.now from false c.args.node.now)
    (g.met.L.TreeLog.tells_none c.args.log.now (sym c.is_dropping.ensures ∙ c.if-is_dropping.true))

pub returns-then-is_dropping-clause-log : goal.returns-then-is_dropping-clause-log
returns-then-is_dropping-clause-log g c = log_stays_ok _ c.args.log.now (g.met.L.TreeLog.steady_stays c.args.log.now) (g.met.L.TreeLog.quiet_stays c.args.log.now)

pub returns-in_err-line-clause-log : goal.returns-in_err-line-clause-log
returns-in_err-line-clause-log g c = log_memory c.from_residual.result c.args.log.now (g.met.L.TreeLog.steady_stays c.args.log.now) (g.met.L.TreeLog.quiet_stays c.args.log.now) c.from_residual.ensures.1

pub returns-in_err-line-clause-keeps : goal.returns-in_err-line-clause-keeps
returns-in_err-line-clause-keeps g c = λ from.
    keeps_err (λ f. f ≡ NoMemory) c.from_residual.result c.args.problem.now from (g.L.TreeLog.lines c.args.log.now) (g.L.TreeLog.lines c.args.log.now) c.args.asker.now c.args.asker.now
    (Some c.args.node.now) (listing_next c.args.problem.now from false c.args.node.now) c.from_residual.ensures.1
    (keeps_same c.args.problem.now from (g.L.TreeLog.lines c.args.log.now) c.args.asker.now (Some c.args.node.now) (Some c.args.node.now) refl)

pub returns-clause-keeps : goal.returns-clause-keeps
returns-clause-keeps g c =
    subst (KeepsPast c.args.problem.now c.put_node.result (g.L.TreeLog.lines c.args.log.now) (g.L.TreeLog.lines c.put_node.new.log) c.args.asker.now c.put_node.new.asker c.args.node.now)
    c.in_ok-line.ensures.leaf
    (c.put_node.ensures.keeps c.args.problem.now c.args.node.now (c.in_ok-line.ensures.tells c.args.asker.now.solver.state))
