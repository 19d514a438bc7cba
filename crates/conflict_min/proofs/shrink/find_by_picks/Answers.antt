use Rattle.std.proofs.Common.{◌≡◌, ◌∙◌, Contains, ap, true}
use Rattle.cert_text.specs.declared.line.Subject.TheVariants.{Kept}
use Rattle.search_log.proofs.Logs.{log_joins, log_ok_as}
use Rattle.pick_search.specs.Blocks.Blocks.{claimed, settled}
use Rattle.pick_search.proofs.blocks.Joins.{keeps_err}
use Rattle.conflict_min.specs.Conflicts.{all_kept, loss_claims, IsClaimedOf}
use Rattle.conflict_min.specs.declared.conflict.Outcome.TheVariants.{Least}
use Rattle.conflict_min.proofs.Claims.{fails, untouched, made_wider, made_joins, told_joins, shrunk_claimed, conflict_claimed}
use Rattle.search_log.proofs.Leading.{led_still, led_joins}
use Rattle.conflict_min.proofs.shrink.find_by_picks.Goals as goal

pub returns-in_err-all-clause-keeps : goal.returns-in_err-all-clause-keeps
returns-in_err-all-clause-keeps g c =
    untouched _ c.from_residual.result c.args.problem.now _ (g.L.TreeLog.lines c.args.log.now) c.args.asker.now c.from_residual.ensures.1

pub returns-in-Met-clause-keeps : goal.returns-in-Met-clause-keeps
returns-in-Met-clause-keeps g c =
    let p = c.args.problem.now in
    let flags = c.deref.result.now in
    made_wider p (λ more. more ≡ settled (Kept flags) c.in_ok-family.field-0) (λ more. more ≡ claimed (Kept (all_kept p)) true) (g.L.TreeLog.lines c.args.log.now) (g.L.TreeLog.lines c.settle_kept.new.log)
    c.args.asker.now c.settle_kept.new.asker
    (λ more is. is ∙ ap (settled (Kept flags)) c.in-Met.is ∙ ap (λ flags. claimed (Kept flags) true) (c.deref.ensures.value ∙ c.in_ok-all.ensures)) c.in_ok-family.ensures.keeps

pub returns-in_err-conflict-in-Refuted-clause-keeps : goal.returns-in_err-conflict-in-Refuted-clause-keeps
returns-in_err-conflict-in-Refuted-clause-keeps g c =
    let p = c.args.problem.now in
    let a = g.L.TreeLog.lines c.args.log.now in
    let b = g.L.TreeLog.lines c.settle_kept.new.log in
    let d = g.L.TreeLog.lines c.shrink.new.log in
    keeps_err _ c.from_residual-in_err-conflict-in-Refuted.result p _ a d c.args.asker.now c.shrink.new.asker c.from_residual-in_err-conflict-in-Refuted.ensures.1
    (told_joins p (λ more. more ≡ settled (Kept c.deref.result.now) c.in_ok-family.field-0) a b d c.args.asker.now c.settle_kept.new.asker c.shrink.new.asker
    c.in_ok-family.ensures.log.told c.in_ok-family.ensures.keeps c.in_err-conflict-in-Refuted.ensures.keeps)

pub returns-in_err-show_losses-in-Refuted-clause-keeps : goal.returns-in_err-show_losses-in-Refuted-clause-keeps
returns-in_err-show_losses-in-Refuted-clause-keeps g c =
    let p = c.args.problem.now in
    let kept = c.in_ok-conflict-in-Refuted.conflict.kept.items in
    let lines = g.L.TreeLog.lines in
    let a = c.args.log.now in
    let b = c.settle_kept.new.log in
    let d = c.shrink.new.log in
    let e = c.show_losses.new.log in
    keeps_err _ c.from_residual-in_err-show_losses-in-Refuted.result p _ (lines a) (lines e) c.args.asker.now c.show_losses.new.asker c.from_residual-in_err-show_losses-in-Refuted.ensures.1
    (told_joins p (λ more. Contains more (fails kept)) (lines a) (lines d) (lines e) c.args.asker.now c.shrink.new.asker c.show_losses.new.asker
    (log_joins _ _ a b d (g.met.L.TreeLog.steady_joins a b d) (g.met.L.TreeLog.quiet_joins a b d) c.in_ok-family.ensures.log c.in_ok-conflict-in-Refuted.ensures.log).told
    (shrunk_claimed p c.in_ok-all.all.items c.deref.result.now kept c.in_ok-family.field-0 (lines a) (lines b) (lines d) c.args.asker.now c.settle_kept.new.asker c.shrink.new.asker
    c.in_ok-family.ensures.log.told c.deref.ensures.value c.in-Refuted.is c.in_ok-family.ensures.keeps c.in_ok-conflict-in-Refuted.ensures.keeps)
    c.in_err-show_losses-in-Refuted.ensures.keeps)

pub returns-in_ok-show_losses-in-Refuted-clause-keeps : goal.returns-in_ok-show_losses-in-Refuted-clause-keeps
returns-in_ok-show_losses-in-Refuted-clause-keeps g c =
    let p = c.args.problem.now in
    let kept = c.in_ok-conflict-in-Refuted.conflict.kept.items in
    let lines = g.L.TreeLog.lines in
    let a = c.args.log.now in
    let b = c.settle_kept.new.log in
    let d = c.shrink.new.log in
    let e = c.show_losses.new.log in
    made_joins p (λ more. Contains more (fails kept)) (λ more. more ≡ loss_claims kept) (IsClaimedOf p (Least c.in_ok-conflict-in-Refuted.conflict)) (lines a) (lines d) (lines e)
    c.args.asker.now c.shrink.new.asker c.show_losses.new.asker
    (log_joins _ _ a b d (g.met.L.TreeLog.steady_joins a b d) (g.met.L.TreeLog.quiet_joins a b d) c.in_ok-family.ensures.log c.in_ok-conflict-in-Refuted.ensures.log).told
    (conflict_claimed kept)
    (shrunk_claimed p c.in_ok-all.all.items c.deref.result.now kept c.in_ok-family.field-0 (lines a) (lines b) (lines d) c.args.asker.now c.settle_kept.new.asker c.shrink.new.asker
    c.in_ok-family.ensures.log.told c.deref.ensures.value c.in-Refuted.is c.in_ok-family.ensures.keeps c.in_ok-conflict-in-Refuted.ensures.keeps)
    c.in_ok-show_losses-in-Refuted.ensures.keeps

pub returns-in_ok-show_losses-in-Refuted-clause-log : goal.returns-in_ok-show_losses-in-Refuted-clause-log
returns-in_ok-show_losses-in-Refuted-clause-log g c =
    let a = c.args.log.now in
    let b = c.settle_kept.new.log in
    let d = c.shrink.new.log in
    let e = c.show_losses.new.log in
    log_ok_as _ _ a e
    (log_joins _ _ a d e (g.met.L.TreeLog.steady_joins a d e) (g.met.L.TreeLog.quiet_joins a d e)
    (log_joins _ _ a b d (g.met.L.TreeLog.steady_joins a b d) (g.met.L.TreeLog.quiet_joins a b d) c.in_ok-family.ensures.log c.in_ok-conflict-in-Refuted.ensures.log)
    c.in_ok-show_losses-in-Refuted.ensures.log)

pub returns-in_err-all-clause-leads : goal.returns-in_err-all-clause-leads
returns-in_err-all-clause-leads g c =
    led_still (g.L.TreeLog.lines c.args.log.now) c.args.asker.now

pub returns-in_err-conflict-in-Refuted-clause-leads : goal.returns-in_err-conflict-in-Refuted-clause-leads
returns-in_err-conflict-in-Refuted-clause-leads g c =
    led_joins (g.L.TreeLog.lines c.args.log.now) (g.L.TreeLog.lines c.settle_kept.new.log) (g.L.TreeLog.lines c.shrink.new.log) c.args.asker.now c.settle_kept.new.asker c.shrink.new.asker c.in_ok-family.ensures.log.told c.settle_kept.ensures.leads
    c.shrink.ensures.leads

pub returns-in_err-show_losses-in-Refuted-clause-leads : goal.returns-in_err-show_losses-in-Refuted-clause-leads
returns-in_err-show_losses-in-Refuted-clause-leads g c =
    led_joins (g.L.TreeLog.lines c.args.log.now) (g.L.TreeLog.lines c.settle_kept.new.log) (g.L.TreeLog.lines c.show_losses.new.log) c.args.asker.now c.settle_kept.new.asker c.show_losses.new.asker c.in_ok-family.ensures.log.told c.settle_kept.ensures.leads
    (led_joins (g.L.TreeLog.lines c.settle_kept.new.log) (g.L.TreeLog.lines c.shrink.new.log) (g.L.TreeLog.lines c.show_losses.new.log) c.settle_kept.new.asker c.shrink.new.asker c.show_losses.new.asker c.in_ok-conflict-in-Refuted.ensures.log.told c.shrink.ensures.leads
    c.show_losses.ensures.leads)

pub returns-in_ok-show_losses-in-Refuted-clause-leads : goal.returns-in_ok-show_losses-in-Refuted-clause-leads
returns-in_ok-show_losses-in-Refuted-clause-leads g c =
    led_joins (g.L.TreeLog.lines c.args.log.now) (g.L.TreeLog.lines c.settle_kept.new.log) (g.L.TreeLog.lines c.show_losses.new.log) c.args.asker.now c.settle_kept.new.asker c.show_losses.new.asker c.in_ok-family.ensures.log.told c.settle_kept.ensures.leads
    (led_joins (g.L.TreeLog.lines c.settle_kept.new.log) (g.L.TreeLog.lines c.shrink.new.log) (g.L.TreeLog.lines c.show_losses.new.log) c.settle_kept.new.asker c.shrink.new.asker c.show_losses.new.asker c.in_ok-conflict-in-Refuted.ensures.log.told c.shrink.ensures.leads
    c.show_losses.ensures.leads)
