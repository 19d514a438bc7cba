use Rattle.std.proofs.Common.{◌≡◌, true, ◌++◌, None, Ok, sym, ◌∙◌, refl, subst}
use Rattle.search_log.specs.declared.fault.StepFault.TheVariants.{NoMemory}
use Rattle.search_log.proofs.Logs.{asker_stays, log_stays_ok, log_memory}
use Rattle.search_log.proofs.Leading.{led_still, led_untold}
use Rattle.cert_rules.proofs.ClaimWriting.{claims_put_keep_up_law}
use Rattle.pick_search.specs.Blocks.Blocks.{claimed}
use Rattle.pick_search.specs.Blocks.Steps.{LineLeads}
use Rattle.pick_search.proofs.blocks.Answered.{keeps_from}
use Rattle.pick_search.proofs.blocks.Joins.{keeps_err, keeps_untold, nothing_told}
use Rattle.pick_search.proofs.blocks.claims.show.Goals as goal

pub returns-then-is_dropping-clause-keeps : goal.returns-then-is_dropping-clause-keeps
returns-then-is_dropping-clause-keeps g c = λ p shows.
    keeps_untold (Ok (tt {0})) p (λ _ more. more ≡ claimed c.args.subject.now true) (g.L.TreeLog.lines c.args.log.now) (g.L.TreeLog.lines c.args.log.now) c.args.asker.now c.clear_lines.new.self
    (g.met.L.TreeLog.tells_none c.args.log.now (sym c.is_dropping.ensures ∙ c.if-is_dropping.true))

pub returns-then-is_dropping-clause-log : goal.returns-then-is_dropping-clause-log
returns-then-is_dropping-clause-log g c = log_stays_ok _ c.args.log.now (g.met.L.TreeLog.steady_stays c.args.log.now) (g.met.L.TreeLog.quiet_stays c.args.log.now)

pub returns-in_err-line-clause-keeps : goal.returns-in_err-line-clause-keeps
returns-in_err-line-clause-keeps g c = λ p shows.
    let told = g.L.TreeLog.lines c.args.log.now in
    keeps_err (λ f. f ≡ NoMemory) c.from_residual.result p (λ _ more. more ≡ claimed c.args.subject.now true) told told c.args.asker.now c.args.asker.now c.from_residual.ensures.1
    (nothing_told p told c.args.asker.now c.args.asker.now (asker_stays c.args.asker.now))

pub returns-in_err-line-clause-log : goal.returns-in_err-line-clause-log
returns-in_err-line-clause-log g c = log_memory c.from_residual.result c.args.log.now (g.met.L.TreeLog.steady_stays c.args.log.now) (g.met.L.TreeLog.quiet_stays c.args.log.now) c.from_residual.ensures.1

pub returns-clause-keeps : goal.returns-clause-keeps
returns-clause-keeps g c = λ p shows.
    let state = c.args.asker.now.solver.state in
    let made = claimed c.args.subject.now true in
    keeps_from c.put_behind.result p (λ _ more. more ≡ made) made (g.L.TreeLog.lines c.args.log.now) (g.L.TreeLog.lines c.put_behind.new.log) c.args.asker.now c.put_behind.new.asker (λ value. refl)
    (λ claims. c.put_behind.ensures.keeps p None None claims (claims ++ made)
    (subst (λ line. LineLeads p state line None claims None (claims ++ made)) (sym c.in_ok-line.ensures)
    (λ lines k. claims_put_keep_up_law.holds p lines state claims c.args.subject.now c.args.family.now k shows)))

pub returns-then-is_dropping-clause-leads : goal.returns-then-is_dropping-clause-leads
returns-then-is_dropping-clause-leads g c =
    led_untold (g.L.TreeLog.lines c.args.log.now) (g.L.TreeLog.lines c.args.log.now) c.args.asker.now c.clear_lines.new.self (g.met.L.TreeLog.tells_none c.args.log.now (sym c.is_dropping.ensures ∙ c.if-is_dropping.true))

pub returns-in_err-line-clause-leads : goal.returns-in_err-line-clause-leads
returns-in_err-line-clause-leads g c =
    led_still (g.L.TreeLog.lines c.args.log.now) c.args.asker.now
