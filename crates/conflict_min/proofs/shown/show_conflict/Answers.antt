use Rattle.std.proofs.Common.{◌≡◌, ◌∙◌, false, ap}
use Rattle.cert_text.specs.declared.line.Subject.TheVariants.{Kept}
use Rattle.search_log.proofs.Leading.{led_joins}
use Rattle.pick_search.specs.Blocks.Blocks.{claimed}
use Rattle.pick_search.proofs.blocks.Joins.{keeps_join}
use Rattle.conflict_min.specs.Conflicts.{loss_claims, IsClaimedOf}
use Rattle.conflict_min.specs.declared.conflict.Outcome.TheVariants.{Least}
use Rattle.conflict_min.proofs.Claims.{conflict_told}
use Rattle.conflict_min.proofs.shown.show_conflict.Goals as goal

pub returns-clause-keeps : goal.returns-clause-keeps
returns-clause-keeps g c =
    let p = c.args.problem.now in
    let conflict = c.args.conflict.now in
    let flags = c.deref.result.now in
    keeps_join c.show_losses.result p (λ more. more ≡ claimed (Kept flags) false) (λ _ more. more ≡ loss_claims conflict.kept.items) (λ _. IsClaimedOf p (Least conflict)) (g.L.TreeLog.lines c.args.log.now)
    (g.L.TreeLog.lines c.refute_kept.new.log) (g.L.TreeLog.lines c.show_losses.new.log) c.args.asker.now c.refute_kept.new.asker c.show_losses.new.asker c.in_ok-refute_kept.ensures.log.told
    (λ _ one two first second. conflict_told conflict.kept.items one two (first ∙ ap (λ flags. claimed (Kept flags) false) c.deref.ensures.value) second) c.in_ok-refute_kept.ensures.keeps
    c.show_losses.ensures.keeps

pub returns-clause-leads : goal.returns-clause-leads
returns-clause-leads g c =
    led_joins (g.L.TreeLog.lines c.args.log.now) (g.L.TreeLog.lines c.refute_kept.new.log) (g.L.TreeLog.lines c.show_losses.new.log) c.args.asker.now c.refute_kept.new.asker c.show_losses.new.asker
    c.in_ok-refute_kept.ensures.log.told c.refute_kept.ensures.leads c.show_losses.ensures.leads
