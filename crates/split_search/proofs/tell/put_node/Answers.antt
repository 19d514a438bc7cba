use Rattle.std.proofs.Common.{◌≡◌, Some}
use Rattle.cert_rules.specs.Trees.{is_branch}
use Rattle.search_log.specs.Logging.{next_if}
use Rattle.split_search.specs.Walking.{next_node}
use Rattle.split_search.proofs.Told.{keeps_err, keeps_joins, keeps_put_if, keeps_flushed, tells_same}
use Rattle.search_log.proofs.Logs.{log_joins}
use Rattle.search_log.proofs.Leading.{led_joins}
use Rattle.split_search.proofs.tell.put_node.Goals as goal

pub returns-in_err-put_waiting-clause-keeps : goal.returns-in_err-put_waiting-clause-keeps
returns-in_err-put_waiting-clause-keeps g c = λ q m tells.
    keeps_err (λ f. f ≡ c.in_err-put_waiting.field-0.0) c.from_residual.result q (g.L.TreeLog.lines c.args.log.now) (g.L.TreeLog.lines c.put_waiting.new.log) c.args.asker.now c.put_waiting.new.asker
    m (is_branch c.args.line.now) c.from_residual.ensures.1
    (keeps_flushed c.put_waiting.result q (g.L.TreeLog.lines c.args.log.now) (g.L.TreeLog.lines c.put_waiting.new.log) c.args.asker.now c.put_waiting.new.asker (Some m) c.put_waiting.ensures.same c.put_waiting.ensures.flushed)

pub returns-clause-keeps : goal.returns-clause-keeps
returns-clause-keeps g c = λ q m tells.
    let line = c.args.line.now in
    keeps_joins q (g.L.TreeLog.lines c.args.log.now) (g.L.TreeLog.lines c.put_waiting.new.log) (g.L.TreeLog.lines c.put_one.new.log) c.args.asker.now c.put_waiting.new.asker c.put_waiting.new.asker
    (Some m) (Some m) (next_if c.put_one.result (next_node q (is_branch line) m) (Some m)) c.in_ok-put_waiting.ensures.log.told
    (keeps_flushed c.put_waiting.result q (g.L.TreeLog.lines c.args.log.now) (g.L.TreeLog.lines c.put_waiting.new.log) c.args.asker.now c.put_waiting.new.asker (Some m) c.put_waiting.ensures.same c.put_waiting.ensures.flushed)
    (keeps_put_if c.put_one.result q (g.L.TreeLog.lines c.put_waiting.new.log) (g.L.TreeLog.lines c.put_one.new.log) c.put_waiting.new.asker m line c.in_ok-put_waiting.ensures.flushed.ok.none_waits
    (tells_same q c.args.asker.now c.put_waiting.new.asker m line c.put_waiting.ensures.same tells) c.put_one.ensures.told c.put_one.ensures.err)

pub returns-clause-log : goal.returns-clause-log
returns-clause-log g c =
    log_joins _ c.put_one.result c.args.log.now c.put_waiting.new.log c.put_one.new.log (g.met.L.TreeLog.steady_joins c.args.log.now c.put_waiting.new.log c.put_one.new.log) (g.met.L.TreeLog.quiet_joins c.args.log.now c.put_waiting.new.log c.put_one.new.log)
    c.in_ok-put_waiting.ensures.log c.put_one.ensures.log

pub returns-clause-leads : goal.returns-clause-leads
returns-clause-leads g c =
    led_joins (g.L.TreeLog.lines c.args.log.now) (g.L.TreeLog.lines c.put_waiting.new.log) (g.L.TreeLog.lines c.put_one.new.log) c.args.asker.now c.put_waiting.new.asker c.put_waiting.new.asker c.in_ok-put_waiting.ensures.log.told c.put_waiting.ensures.leads
    (c.put_one.ensures.leads c.put_waiting.new.asker c.requires.no_derivation)
