use Rattle.std.proofs.Common.{◌≡◌, false, Some, sym, ◌∙◌, subst}
use Rattle.std.proofs.lemmas.Bool.{true≢false}
use Rattle.search_log.specs.declared.fault.StepFault.TheVariants.{NoMemory}
use Rattle.search_log.specs.Logging.{next_if}
use Rattle.split_search.specs.Walking.{next_node, KeepsPast}
use Rattle.split_search.proofs.Told.{keeps_err, keeps_goes, keeps_after, keeps_untold}
use Rattle.search_log.proofs.Logs.{log_stays_ok, log_memory}
use Rattle.search_log.proofs.Leading.{led_untold, led_goes, led_after}
use Rattle.split_search.proofs.tell.tell_dead.Goals as goal

pub returns-then-is_dropping-clause-keeps : goal.returns-then-is_dropping-clause-keeps
returns-then-is_dropping-clause-keeps g c =
    let q = c.args.walk.now.subject in
    let m = c.args.walk.now.path in
    keeps_untold q (g.L.TreeLog.lines c.args.log.now) (g.L.TreeLog.lines c.args.log.now) c.args.asker.now c.clear_lines.new.self
    (Some m) (next_node q false m) (g.met.L.TreeLog.tells_none c.args.log.now (sym c.is_dropping.ensures ∙ c.if-is_dropping.true))

pub returns-then-is_dropping-clause-log : goal.returns-then-is_dropping-clause-log
returns-then-is_dropping-clause-log g c = log_stays_ok _ c.args.log.now (g.met.L.TreeLog.steady_stays c.args.log.now) (g.met.L.TreeLog.quiet_stays c.args.log.now)

pub returns-in_err-line-clause-log : goal.returns-in_err-line-clause-log
returns-in_err-line-clause-log g c = log_memory c.from_residual.result c.args.log.now (g.met.L.TreeLog.steady_stays c.args.log.now) (g.met.L.TreeLog.quiet_stays c.args.log.now) c.from_residual.ensures.1

pub returns-in_err-line-clause-keeps : goal.returns-in_err-line-clause-keeps
returns-in_err-line-clause-keeps g c =
    let q = c.args.walk.now.subject in
    let m = c.args.walk.now.path in
    keeps_err (λ f. f ≡ NoMemory) c.from_residual.result q (g.L.TreeLog.lines c.args.log.now) (g.L.TreeLog.lines c.args.log.now) c.args.asker.now c.reason_line.new.asker m false c.from_residual.ensures.1
    (keeps_goes q (g.L.TreeLog.lines c.args.log.now) c.args.asker.now c.reason_line.new.asker (Some m) c.reason_line.ensures.kept)

pub returns-clause-keeps : goal.returns-clause-keeps
returns-clause-keeps g c =
    let q = c.args.walk.now.subject in
    let m = c.args.walk.now.path in
    let r = c.put_node.result in
    let past : KeepsPast q r (g.L.TreeLog.lines c.args.log.now) (g.L.TreeLog.lines c.put_node.new.log) c.reason_line.new.asker c.put_node.new.asker m false =
    subst (KeepsPast q r (g.L.TreeLog.lines c.args.log.now) (g.L.TreeLog.lines c.put_node.new.log) c.reason_line.new.asker c.put_node.new.asker m) c.in_ok-line.ensures.leaf
    (c.put_node.ensures.keeps q m (record { tells = c.in_ok-line.ensures.tells; alive = λ yes. absurd (true≢false (sym yes ∙ c.in_ok-line.ensures.leaf)) })) in
    keeps_after q (g.L.TreeLog.lines c.args.log.now) (g.L.TreeLog.lines c.put_node.new.log) c.args.asker.now c.reason_line.new.asker c.put_node.new.asker
    (Some m) (next_if r (next_node q false m) (Some m)) c.reason_line.ensures.kept past

pub returns-then-is_dropping-clause-leads : goal.returns-then-is_dropping-clause-leads
returns-then-is_dropping-clause-leads g c =
    led_untold (g.L.TreeLog.lines c.args.log.now) (g.L.TreeLog.lines c.args.log.now) c.args.asker.now c.clear_lines.new.self (g.met.L.TreeLog.tells_none c.args.log.now (sym c.is_dropping.ensures ∙ c.if-is_dropping.true))

pub returns-in_err-line-clause-leads : goal.returns-in_err-line-clause-leads
returns-in_err-line-clause-leads g c =
    led_goes (g.L.TreeLog.lines c.args.log.now) c.args.asker.now c.reason_line.new.asker c.reason_line.ensures.kept

pub returns-clause-leads : goal.returns-clause-leads
returns-clause-leads g c =
    led_after (g.L.TreeLog.lines c.args.log.now) (g.L.TreeLog.lines c.put_node.new.log) c.args.asker.now c.reason_line.new.asker c.put_node.new.asker c.reason_line.ensures.kept c.put_node.ensures.leads
