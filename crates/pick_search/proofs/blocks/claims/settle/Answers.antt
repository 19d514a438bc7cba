use Rattle.std.proofs.Common.{◌≡◌, ◌≤◌, length, None, Ok, Err, sym, ◌∙◌, refl, subst}
use Rattle.cert_rules.specs.ClaimWriting.{open_at}
use Rattle.search_log.proofs.Logs.{log_joins, log_memory, log_ok_as, log_as, log_stays_ok}
use Rattle.pick_search.specs.Blocks.Blocks.{settled}
use Rattle.pick_search.proofs.blocks.Answered.{made_from, told_from, somewhere, searched, finished}
use Rattle.pick_search.proofs.blocks.Joins.{keeps_err, keeps_untold}
use Rattle.pick_search.proofs.blocks.Steps.{leads_some}
use Rattle.search_log.proofs.Leading.{led_untold, led_joins}
use Rattle.pick_search.proofs.blocks.claims.settle.Goals as goal

pub returns-in_err-choose_by_picks-clause-keeps : goal.returns-in_err-choose_by_picks-clause-keeps
returns-in_err-choose_by_picks-clause-keeps g c = λ p is.
    keeps_untold c.from_residual.result p (λ choice more. more ≡ settled c.args.subject.now choice) (g.L.TreeLog.lines c.args.log.now) (g.L.TreeLog.lines c.args.log.now) c.args.asker.now c.choose_by_picks.new.asker
    (g.met.L.TreeLog.tells_none c.args.log.now (sym c.is_dropping.ensures ∙ c.if-is_dropping.true))

pub returns-in_err-choose_by_picks-clause-log : goal.returns-in_err-choose_by_picks-clause-log
returns-in_err-choose_by_picks-clause-log g c =
    log_memory c.from_residual.result c.args.log.now (g.met.L.TreeLog.steady_stays c.args.log.now) (g.met.L.TreeLog.quiet_stays c.args.log.now) c.from_residual.ensures.1

pub returns-then-is_dropping-clause-keeps : goal.returns-then-is_dropping-clause-keeps
returns-then-is_dropping-clause-keeps g c = λ p is.
    keeps_untold (Ok c.in_ok-choose_by_picks.field-0) p (λ choice more. more ≡ settled c.args.subject.now choice) (g.L.TreeLog.lines c.args.log.now) (g.L.TreeLog.lines c.args.log.now) c.args.asker.now c.choose_by_picks.new.asker
    (g.met.L.TreeLog.tells_none c.args.log.now (sym c.is_dropping.ensures ∙ c.if-is_dropping.true))

pub returns-then-is_dropping-clause-log : goal.returns-then-is_dropping-clause-log
returns-then-is_dropping-clause-log g c = log_stays_ok _ c.args.log.now (g.met.L.TreeLog.steady_stays c.args.log.now) (g.met.L.TreeLog.quiet_stays c.args.log.now)

pub returns-in_err-begin_tree-clause-keeps : goal.returns-in_err-begin_tree-clause-keeps
returns-in_err-begin_tree-clause-keeps g c = λ p is.
    let old = g.L.TreeLog.lines c.args.log.now in
    let new = g.L.TreeLog.lines c.begin_tree.new.log in
    keeps_err (λ f. f ≡ c.in_err-begin_tree.field-0.0) c.from_residual-in_err-begin_tree.result p (λ choice more. more ≡ settled c.args.subject.now choice) old new c.args.asker.now c.begin_tree.new.asker c.from_residual-in_err-begin_tree.ensures.1
    (told_from p old new c.args.asker.now c.begin_tree.new.asker (λ claims. c.in_err-begin_tree.ensures.keeps p claims is.named))

pub returns-in_err-begin_tree-clause-log : goal.returns-in_err-begin_tree-clause-log
returns-in_err-begin_tree-clause-log g c = log_as _ c.from_residual-in_err-begin_tree.result c.args.log.now c.begin_tree.new.log c.from_residual-in_err-begin_tree.ensures.1 c.in_err-begin_tree.ensures.log

pub returns-in_err-choice-clause-keeps : goal.returns-in_err-choice-clause-keeps
returns-in_err-choice-clause-keeps g c = λ p is.
    let subject = c.args.subject.now in
    let old = g.L.TreeLog.lines c.args.log.now in
    let mid = g.L.TreeLog.lines c.begin_tree.new.log in
    let new = g.L.TreeLog.lines c.choose.new.log in
    let one = c.args.asker.now in
    let three = c.choose.new.asker in
    keeps_err (λ f. f ≡ c.in_err-choice.field-0.0) c.from_residual-in_err-choice.result p (λ choice more. more ≡ settled subject choice) old new one three c.from_residual-in_err-choice.ensures.1
    (told_from p old new one three (λ claims.
    let at = somewhere p subject claims old mid new one c.begin_tree.new.asker three c.in_ok-begin_tree.ensures.log.told (c.in_ok-begin_tree.ensures.keeps p claims is.named) (c.in_err-choice.ensures.keeps p subject claims is.problem) in
    leads_some p old new one three None (open_at subject at.0) claims claims at.1))

pub returns-in_err-choice-clause-log : goal.returns-in_err-choice-clause-log
returns-in_err-choice-clause-log g c =
    log_as _ c.from_residual-in_err-choice.result c.args.log.now c.choose.new.log c.from_residual-in_err-choice.ensures.1
    (log_joins _ _ c.args.log.now c.begin_tree.new.log c.choose.new.log (g.met.L.TreeLog.steady_joins c.args.log.now c.begin_tree.new.log c.choose.new.log) (g.met.L.TreeLog.quiet_joins c.args.log.now c.begin_tree.new.log c.choose.new.log)
    c.in_ok-begin_tree.ensures.log c.in_err-choice.ensures.log)

pub returns-in_err-end_tree-clause-keeps : goal.returns-in_err-end_tree-clause-keeps
returns-in_err-end_tree-clause-keeps g c = λ p is.
    let subject = c.args.subject.now in
    let choice = c.in_ok-choice.choice in
    let old = g.L.TreeLog.lines c.args.log.now in
    let mid = g.L.TreeLog.lines c.begin_tree.new.log in
    let late = g.L.TreeLog.lines c.choose.new.log in
    let new = g.L.TreeLog.lines c.end_tree.new.log in
    let one = c.args.asker.now in
    let two = c.begin_tree.new.asker in
    let three = c.choose.new.asker in
    let four = c.end_tree.new.asker in
    keeps_err (λ f. f ≡ c.in_err-end_tree.field-0.0) c.from_residual-in_err-end_tree.result p (λ choice more. more ≡ settled subject choice) old new one four c.from_residual-in_err-end_tree.ensures.1
    (told_from p old new one four (λ claims.
    let k = searched choice p subject claims mid late two three (c.in_ok-choice.ensures.keeps p subject claims is.problem) in
    finished {T = Unit {0}} (Err c.in_err-end_tree.field-0.0) p subject (settled subject choice) claims k.0 old mid late new one two three four c.in_ok-begin_tree.ensures.log.told c.in_ok-choice.ensures.log.told
    (c.in_ok-begin_tree.ensures.keeps p claims is.named) k.2 (c.in_err-end_tree.ensures.keeps p k.0 claims is k.1)))

pub returns-in_err-end_tree-clause-log : goal.returns-in_err-end_tree-clause-log
returns-in_err-end_tree-clause-log g c =
    log_as _ c.from_residual-in_err-end_tree.result c.args.log.now c.end_tree.new.log c.from_residual-in_err-end_tree.ensures.1
    (log_joins _ _ c.args.log.now c.choose.new.log c.end_tree.new.log (g.met.L.TreeLog.steady_joins c.args.log.now c.choose.new.log c.end_tree.new.log) (g.met.L.TreeLog.quiet_joins c.args.log.now c.choose.new.log c.end_tree.new.log)
    (log_joins _ _ c.args.log.now c.begin_tree.new.log c.choose.new.log (g.met.L.TreeLog.steady_joins c.args.log.now c.begin_tree.new.log c.choose.new.log) (g.met.L.TreeLog.quiet_joins c.args.log.now c.begin_tree.new.log c.choose.new.log)
    c.in_ok-begin_tree.ensures.log c.in_ok-choice.ensures.log) c.in_err-end_tree.ensures.log)

pub returns-clause-ready : goal.returns-clause-ready
returns-clause-ready g c = record {
  none_waits = c.in_ok-end_tree.ensures.ready;
  few_idle = subst (λ idle. length idle ≤ 1024) (sym c.end_tree.ensures.same.idle) c.in_ok-choice.ensures.ready.few_idle;
}

pub returns-clause-keeps : goal.returns-clause-keeps
returns-clause-keeps g c = λ p is.
    let subject = c.args.subject.now in
    let choice = c.in_ok-choice.choice in
    let old = g.L.TreeLog.lines c.args.log.now in
    let mid = g.L.TreeLog.lines c.begin_tree.new.log in
    let late = g.L.TreeLog.lines c.choose.new.log in
    let new = g.L.TreeLog.lines c.end_tree.new.log in
    let one = c.args.asker.now in
    let two = c.begin_tree.new.asker in
    let three = c.choose.new.asker in
    let four = c.end_tree.new.asker in
    made_from p (λ more. more ≡ settled subject choice) (settled subject choice) old new one four refl (λ claims.
    let k = searched choice p subject claims mid late two three (c.in_ok-choice.ensures.keeps p subject claims is.problem) in
    finished (Ok (tt {0})) p subject (settled subject choice) claims k.0 old mid late new one two three four c.in_ok-begin_tree.ensures.log.told c.in_ok-choice.ensures.log.told
    (c.in_ok-begin_tree.ensures.keeps p claims is.named) k.2 (c.in_ok-end_tree.ensures.keeps p k.0 claims is k.1))

pub returns-clause-log : goal.returns-clause-log
returns-clause-log g c =
    log_ok_as _ _ c.args.log.now c.end_tree.new.log
    (log_joins _ _ c.args.log.now c.choose.new.log c.end_tree.new.log (g.met.L.TreeLog.steady_joins c.args.log.now c.choose.new.log c.end_tree.new.log) (g.met.L.TreeLog.quiet_joins c.args.log.now c.choose.new.log c.end_tree.new.log)
    (log_joins _ _ c.args.log.now c.begin_tree.new.log c.choose.new.log (g.met.L.TreeLog.steady_joins c.args.log.now c.begin_tree.new.log c.choose.new.log) (g.met.L.TreeLog.quiet_joins c.args.log.now c.begin_tree.new.log c.choose.new.log)
    c.in_ok-begin_tree.ensures.log c.in_ok-choice.ensures.log) c.in_ok-end_tree.ensures.log)

pub returns-in_err-choose_by_picks-clause-leads : goal.returns-in_err-choose_by_picks-clause-leads
returns-in_err-choose_by_picks-clause-leads g c =
    led_untold (g.L.TreeLog.lines c.args.log.now) (g.L.TreeLog.lines c.args.log.now) c.args.asker.now c.choose_by_picks.new.asker (g.met.L.TreeLog.tells_none c.args.log.now (sym c.is_dropping.ensures ∙ c.if-is_dropping.true))

pub returns-then-is_dropping-clause-leads : goal.returns-then-is_dropping-clause-leads
returns-then-is_dropping-clause-leads g c =
    led_untold (g.L.TreeLog.lines c.args.log.now) (g.L.TreeLog.lines c.args.log.now) c.args.asker.now c.choose_by_picks.new.asker (g.met.L.TreeLog.tells_none c.args.log.now (sym c.is_dropping.ensures ∙ c.if-is_dropping.true))

pub returns-in_err-choice-clause-leads : goal.returns-in_err-choice-clause-leads
returns-in_err-choice-clause-leads g c =
    led_joins (g.L.TreeLog.lines c.args.log.now) (g.L.TreeLog.lines c.begin_tree.new.log) (g.L.TreeLog.lines c.choose.new.log) c.args.asker.now c.begin_tree.new.asker c.choose.new.asker c.in_ok-begin_tree.ensures.log.told c.begin_tree.ensures.leads
    c.choose.ensures.leads

pub returns-in_err-end_tree-clause-leads : goal.returns-in_err-end_tree-clause-leads
returns-in_err-end_tree-clause-leads g c =
    led_joins (g.L.TreeLog.lines c.args.log.now) (g.L.TreeLog.lines c.begin_tree.new.log) (g.L.TreeLog.lines c.end_tree.new.log) c.args.asker.now c.begin_tree.new.asker c.end_tree.new.asker c.in_ok-begin_tree.ensures.log.told c.begin_tree.ensures.leads
    (led_joins (g.L.TreeLog.lines c.begin_tree.new.log) (g.L.TreeLog.lines c.choose.new.log) (g.L.TreeLog.lines c.end_tree.new.log) c.begin_tree.new.asker c.choose.new.asker c.end_tree.new.asker c.in_ok-choice.ensures.log.told c.choose.ensures.leads
    c.end_tree.ensures.leads)

pub returns-clause-leads : goal.returns-clause-leads
returns-clause-leads g c =
    led_joins (g.L.TreeLog.lines c.args.log.now) (g.L.TreeLog.lines c.begin_tree.new.log) (g.L.TreeLog.lines c.end_tree.new.log) c.args.asker.now c.begin_tree.new.asker c.end_tree.new.asker c.in_ok-begin_tree.ensures.log.told c.begin_tree.ensures.leads
    (led_joins (g.L.TreeLog.lines c.begin_tree.new.log) (g.L.TreeLog.lines c.choose.new.log) (g.L.TreeLog.lines c.end_tree.new.log) c.begin_tree.new.asker c.choose.new.asker c.end_tree.new.asker c.in_ok-choice.ensures.log.told c.choose.ensures.leads
    c.end_tree.ensures.leads)
