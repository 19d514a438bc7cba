use Rattle.std.proofs.Common.{subst}
use Rattle.cert_text.specs.declared.line.CertLine.TheVariants.{Claims}
use Rattle.cert_text.specs.Logs.{IsToldWith}
use Rattle.search_log.proofs.Logs.{log_joins, log_as, log_then_memory}
use Rattle.claims_run.proofs.ClaimedLemmas.{told_whole}
use Rattle.claims_run.proofs.answering.tell.Goals as goal

pub returns-in_err-put_one-clause-log : goal.returns-in_err-put_one-clause-log
returns-in_err-put_one-clause-log g c =
    log_as _ c.from_residual.result c.args.log.now c.put_one.new.log c.from_residual.ensures.1 c.in_err-put_one.ensures.log

pub returns-in_err-put_one-clause-steady : goal.returns-in_err-put_one-clause-steady
returns-in_err-put_one-clause-steady g c = (returns-in_err-put_one-clause-log g c).comes

pub returns-in_err-asker-clause-log : goal.returns-in_err-asker-clause-log
returns-in_err-asker-clause-log g c =
    log_then_memory _ c.from_residual-in_err-asker.result c.args.log.now c.put_one.new.log c.from_residual-in_err-asker.ensures.1 c.in_ok-put_one.ensures.log

pub returns-in_err-asker-clause-steady : goal.returns-in_err-asker-clause-steady
returns-in_err-asker-clause-steady g c = (returns-in_err-asker-clause-log g c).comes

pub returns-clause-told : goal.returns-clause-told
returns-clause-told g c =
    told_whole c.tell_rest.result c.args.problem.now (g.L.TreeLog.lines c.args.log.now) (g.L.TreeLog.lines c.put_one.new.log) (g.L.TreeLog.lines c.tell_rest.new.log)
    (subst (λ switches. IsToldWith (g.L.TreeLog.lines c.args.log.now) (Claims switches) (g.L.TreeLog.lines c.put_one.new.log)) c.switches.ensures c.in_ok-put_one.ensures.told) c.tell_rest.ensures.told

pub returns-clause-log : goal.returns-clause-log
returns-clause-log g c =
    log_joins _ _ c.args.log.now c.put_one.new.log c.tell_rest.new.log (g.met.L.TreeLog.steady_joins c.args.log.now c.put_one.new.log c.tell_rest.new.log) (g.met.L.TreeLog.quiet_joins c.args.log.now c.put_one.new.log c.tell_rest.new.log) c.in_ok-put_one.ensures.log c.tell_rest.ensures.log

pub returns-clause-steady : goal.returns-clause-steady
returns-clause-steady g c = (returns-clause-log g c).comes
