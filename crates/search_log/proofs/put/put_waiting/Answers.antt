use Rattle.std.proofs.Common.{◌≡◌, ◌∙◌, All, sym, ap, map, subst, OnOk}
use Rattle.lits_core.specs.Derivation.{FromOne}
use Rattle.cert_text.specs.declared.line.CertLine.TheVariants.{Proof}
use Rattle.point_query.specs.Asking.{AskerState}
use Rattle.search_log.specs.declared.fault.StepFault.TheVariants.{NoMemory}
use Rattle.search_log.specs.Logging.{AreToldWith}
use Rattle.search_log.proofs.Logs.{cleared_same, flushed_by_put, flushed_untold, flushed_not, log_stays_ok, log_memory}
use Rattle.search_log.proofs.Leading.{led_still, led_untold, led_flushed}
use Rattle.search_log.proofs.put.put_waiting.Goals as goal

pub returns-then-is_dropping-clause-flushed : goal.returns-then-is_dropping-clause-flushed
returns-then-is_dropping-clause-flushed g c =
    flushed_untold (tt {0}) (g.L.TreeLog.lines c.args.log.now) c.args.asker.now c.clear_lines.new.self
    (g.met.L.TreeLog.tells_none c.args.log.now (sym c.is_dropping.ensures ∙ c.if-is_dropping.true)) (ap (λ (s : AskerState). s.solver.waiting) c.clear_lines.ensures)

pub returns-then-is_dropping-clause-log : goal.returns-then-is_dropping-clause-log
returns-then-is_dropping-clause-log g c = log_stays_ok _ c.args.log.now (g.met.L.TreeLog.steady_stays c.args.log.now) (g.met.L.TreeLog.quiet_stays c.args.log.now)

pub returns-in_err-lines-clause-flushed : goal.returns-in_err-lines-clause-flushed
returns-in_err-lines-clause-flushed g c = flushed_not (λ f. f ≡ NoMemory) c.from_residual.result (g.L.TreeLog.lines c.args.log.now) c.args.asker.now c.from_residual.ensures.1

pub returns-in_err-lines-clause-log : goal.returns-in_err-lines-clause-log
returns-in_err-lines-clause-log g c = log_memory c.from_residual.result c.args.log.now (g.met.L.TreeLog.steady_stays c.args.log.now) (g.met.L.TreeLog.quiet_stays c.args.log.now) c.from_residual.ensures.1

pub returns-clause-flushed : goal.returns-clause-flushed
returns-clause-flushed g c =
    let old = g.L.TreeLog.lines c.args.log.now in
    let new = g.L.TreeLog.lines c.put_all.new.log in
    let one = c.args.asker.now in
    let are : c.deref.result.now ≡ map Proof one.solver.waiting = c.deref.ensures.value ∙ c.in_ok-lines.ensures.copies ∙ ap (map Proof) c.lines.ensures in
    flushed_by_put c.put_all.result old new one c.clear_lines-2.new.self (ap (λ (s : AskerState). s.solver.waiting) c.clear_lines-2.ensures)
    (subst (λ lines. OnOk c.put_all.result (AreToldWith old lines new)) are c.put_all.ensures.told) c.put_all.ensures.err

pub returns-then-is_dropping-clause-leads : goal.returns-then-is_dropping-clause-leads
returns-then-is_dropping-clause-leads g c =
    led_untold (g.L.TreeLog.lines c.args.log.now) (g.L.TreeLog.lines c.args.log.now) c.args.asker.now c.clear_lines.new.self
    (g.met.L.TreeLog.tells_none c.args.log.now (sym c.is_dropping.ensures ∙ c.if-is_dropping.true))

pub returns-in_err-lines-clause-leads : goal.returns-in_err-lines-clause-leads
returns-in_err-lines-clause-leads g c = led_still (g.L.TreeLog.lines c.args.log.now) c.args.asker.now

pub copy_lines-requires : goal.copy_lines-requires
copy_lines-requires g c = subst (All FromOne) (sym c.lines.ensures) c.facts.ensures.solver.waiting_from_one

pub returns-clause-leads : goal.returns-clause-leads
returns-clause-leads g c =
    let old = g.L.TreeLog.lines c.args.log.now in
    let new = g.L.TreeLog.lines c.put_all.new.log in
    let one = c.args.asker.now in
    let are : c.deref.result.now ≡ map Proof one.solver.waiting = c.deref.ensures.value ∙ c.in_ok-lines.ensures.copies ∙ ap (map Proof) c.lines.ensures in
    led_flushed c.put_all.result old new one c.clear_lines-2.new.self (cleared_same one c.clear_lines-2.new.self c.clear_lines-2.ensures)
    (flushed_by_put c.put_all.result old new one c.clear_lines-2.new.self (ap (λ (s : AskerState). s.solver.waiting) c.clear_lines-2.ensures)
    (subst (λ lines. OnOk c.put_all.result (AreToldWith old lines new)) are c.put_all.ensures.told) c.put_all.ensures.err)
