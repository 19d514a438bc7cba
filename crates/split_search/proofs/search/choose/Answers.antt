use Rattle.std.proofs.Common.{◌≤◌, length, sym, subst}
use Rattle.search_log.proofs.Logs.{log_joins, log_ok_as, log_as, log_then_memory}
use Rattle.search_log.proofs.Leading.{led_joins, led_after, led_before}
use Rattle.split_search.proofs.Told.{keeps_after, keeps_goes, keeps_flushed}
use Rattle.split_search.proofs.Within.{choice_fault, choice_then, choice_then_err}
use Rattle.split_search.proofs.search.choose.Goals as goal

pub returns-in_err-choice-clause-keeps : goal.returns-in_err-choice-clause-keeps
returns-in_err-choice-clause-keeps g c =
    choice_fault _ c.from_residual.result c.args.problem.now (g.L.TreeLog.lines c.args.log.now) (g.L.TreeLog.lines c.search.new.log) c.args.asker.now c.search.new.asker c.from_residual.ensures.1 c.in_err-choice.ensures.keeps

pub returns-in_err-choice-clause-log : goal.returns-in_err-choice-clause-log
returns-in_err-choice-clause-log g c =
    log_as _ c.from_residual.result c.args.log.now c.search.new.log c.from_residual.ensures.1 c.in_err-choice.ensures.log

pub returns-in_err-tidy-clause-keeps : goal.returns-in_err-tidy-clause-keeps
returns-in_err-tidy-clause-keeps g c =
    choice_then_err _ c.from_residual-in_err-tidy.result c.in_ok-choice.choice c.args.problem.now (g.L.TreeLog.lines c.args.log.now) (g.L.TreeLog.lines c.search.new.log) (g.L.TreeLog.lines c.search.new.log) c.args.asker.now c.search.new.asker c.tidy.new.asker c.from_residual-in_err-tidy.ensures.1
    c.in_ok-choice.ensures.log.told c.in_ok-choice.ensures.keeps (λ at. keeps_goes c.args.problem.now (g.L.TreeLog.lines c.search.new.log) c.search.new.asker c.tidy.new.asker at c.tidy.ensures.kept)

pub returns-in_err-tidy-clause-log : goal.returns-in_err-tidy-clause-log
returns-in_err-tidy-clause-log g c =
    log_then_memory _ c.from_residual-in_err-tidy.result c.args.log.now c.search.new.log c.from_residual-in_err-tidy.ensures.1 c.in_ok-choice.ensures.log

pub returns-in_err-put_waiting-clause-keeps : goal.returns-in_err-put_waiting-clause-keeps
returns-in_err-put_waiting-clause-keeps g c =
    choice_then_err _ c.from_residual-in_err-put_waiting.result c.in_ok-choice.choice c.args.problem.now (g.L.TreeLog.lines c.args.log.now) (g.L.TreeLog.lines c.search.new.log) (g.L.TreeLog.lines c.put_waiting.new.log) c.args.asker.now c.search.new.asker c.put_waiting.new.asker c.from_residual-in_err-put_waiting.ensures.1
    c.in_ok-choice.ensures.log.told c.in_ok-choice.ensures.keeps
    (λ at. keeps_after c.args.problem.now (g.L.TreeLog.lines c.search.new.log) (g.L.TreeLog.lines c.put_waiting.new.log) c.search.new.asker c.tidy.new.asker c.put_waiting.new.asker at at c.tidy.ensures.kept
    (keeps_flushed _ c.args.problem.now (g.L.TreeLog.lines c.search.new.log) (g.L.TreeLog.lines c.put_waiting.new.log) c.tidy.new.asker c.put_waiting.new.asker at c.put_waiting.ensures.same c.in_err-put_waiting.ensures.flushed))

pub returns-in_err-put_waiting-clause-log : goal.returns-in_err-put_waiting-clause-log
returns-in_err-put_waiting-clause-log g c =
    log_as _ c.from_residual-in_err-put_waiting.result c.args.log.now c.put_waiting.new.log c.from_residual-in_err-put_waiting.ensures.1
    (log_joins _ _ c.args.log.now c.search.new.log c.put_waiting.new.log (g.met.L.TreeLog.steady_joins c.args.log.now c.search.new.log c.put_waiting.new.log) (g.met.L.TreeLog.quiet_joins c.args.log.now c.search.new.log c.put_waiting.new.log) c.in_ok-choice.ensures.log c.in_err-put_waiting.ensures.log)

pub returns-clause-ready : goal.returns-clause-ready
returns-clause-ready g c =
    record {
      none_waits = c.in_ok-put_waiting.ensures.flushed.ok.none_waits;
      few_idle = subst (λ idle. length idle ≤ 1024) (sym c.put_waiting.ensures.same.idle) c.in_ok-tidy.ensures.few;
    }

pub returns-clause-keeps : goal.returns-clause-keeps
returns-clause-keeps g c =
    choice_then c.in_ok-choice.choice c.args.problem.now (g.L.TreeLog.lines c.args.log.now) (g.L.TreeLog.lines c.search.new.log) (g.L.TreeLog.lines c.put_waiting.new.log) c.args.asker.now c.search.new.asker c.put_waiting.new.asker c.in_ok-choice.ensures.log.told c.in_ok-choice.ensures.keeps
    (λ at. keeps_after c.args.problem.now (g.L.TreeLog.lines c.search.new.log) (g.L.TreeLog.lines c.put_waiting.new.log) c.search.new.asker c.tidy.new.asker c.put_waiting.new.asker at at c.tidy.ensures.kept
    (keeps_flushed _ c.args.problem.now (g.L.TreeLog.lines c.search.new.log) (g.L.TreeLog.lines c.put_waiting.new.log) c.tidy.new.asker c.put_waiting.new.asker at c.put_waiting.ensures.same c.in_ok-put_waiting.ensures.flushed))

pub returns-clause-log : goal.returns-clause-log
returns-clause-log g c =
    log_ok_as _ _ c.args.log.now c.put_waiting.new.log
    (log_joins _ _ c.args.log.now c.search.new.log c.put_waiting.new.log (g.met.L.TreeLog.steady_joins c.args.log.now c.search.new.log c.put_waiting.new.log) (g.met.L.TreeLog.quiet_joins c.args.log.now c.search.new.log c.put_waiting.new.log) c.in_ok-choice.ensures.log c.in_ok-put_waiting.ensures.log)

pub returns-in_err-tidy-clause-leads : goal.returns-in_err-tidy-clause-leads
returns-in_err-tidy-clause-leads g c =
    led_before (g.L.TreeLog.lines c.args.log.now) (g.L.TreeLog.lines c.search.new.log) c.args.asker.now c.search.new.asker c.tidy.new.asker c.search.ensures.leads c.tidy.ensures.kept

pub returns-in_err-put_waiting-clause-leads : goal.returns-in_err-put_waiting-clause-leads
returns-in_err-put_waiting-clause-leads g c =
    led_joins (g.L.TreeLog.lines c.args.log.now) (g.L.TreeLog.lines c.search.new.log) (g.L.TreeLog.lines c.put_waiting.new.log) c.args.asker.now c.search.new.asker c.put_waiting.new.asker c.in_ok-choice.ensures.log.told c.search.ensures.leads
    (led_after (g.L.TreeLog.lines c.search.new.log) (g.L.TreeLog.lines c.put_waiting.new.log) c.search.new.asker c.tidy.new.asker c.put_waiting.new.asker c.tidy.ensures.kept c.put_waiting.ensures.leads)

pub returns-clause-leads : goal.returns-clause-leads
returns-clause-leads g c =
    led_joins (g.L.TreeLog.lines c.args.log.now) (g.L.TreeLog.lines c.search.new.log) (g.L.TreeLog.lines c.put_waiting.new.log) c.args.asker.now c.search.new.asker c.put_waiting.new.asker c.in_ok-choice.ensures.log.told c.search.ensures.leads
    (led_after (g.L.TreeLog.lines c.search.new.log) (g.L.TreeLog.lines c.put_waiting.new.log) c.search.new.asker c.tidy.new.asker c.put_waiting.new.asker c.tidy.ensures.kept c.put_waiting.ensures.leads)
