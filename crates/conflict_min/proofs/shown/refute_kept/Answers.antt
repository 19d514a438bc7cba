use Rattle.std.proofs.Common.{◌≡◌, ◌∙◌, false, ap}
use Rattle.cert_text.specs.declared.line.Subject.TheVariants.{Kept}
use Rattle.pick_search.specs.Blocks.Blocks.{claimed, settled}
use Rattle.conflict_min.proofs.Claims.{made_wider}
use Rattle.conflict_min.proofs.shown.refute_kept.Goals as goal

pub returns-clause-keeps : goal.returns-clause-keeps
returns-clause-keeps g c =
    let flags = c.args.kept.now in
    made_wider c.args.problem.now (λ more. more ≡ settled (Kept flags) c.in_ok-settle_kept.field-0) (λ more. more ≡ claimed (Kept flags) false) (g.L.TreeLog.lines c.args.log.now)
    (g.L.TreeLog.lines c.settle_kept.new.log) c.args.asker.now c.settle_kept.new.asker (λ more is. is ∙ ap (settled (Kept flags)) c.in-Refuted.is) c.in_ok-settle_kept.ensures.keeps
