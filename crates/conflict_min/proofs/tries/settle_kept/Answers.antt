use Rattle.std.proofs.Common.{◌≡◌, ◌∙◌, subst}
use Rattle.cert_text.specs.declared.line.Subject.TheVariants.{Kept}
use Rattle.pick_search.specs.Blocks.Blocks.{settled, KeepsClaims}
use Rattle.conflict_min.proofs.Claims.{untouched, kept_subject}
use Rattle.search_log.proofs.Leading.{led_still}
use Rattle.conflict_min.proofs.tries.settle_kept.Goals as goal

pub returns-in_err-from_slice-clause-keeps : goal.returns-in_err-from_slice-clause-keeps
returns-in_err-from_slice-clause-keeps g c =
    untouched _ c.from_residual.result c.args.problem.now _ (g.L.TreeLog.lines c.args.log.now) c.args.asker.now c.from_residual.ensures.1

pub returns-in_err-restricted-clause-keeps : goal.returns-in_err-restricted-clause-keeps
returns-in_err-restricted-clause-keeps g c =
    untouched _ c.from_residual-in_err-restricted.result c.args.problem.now _ (g.L.TreeLog.lines c.args.log.now) c.args.asker.now c.from_residual-in_err-restricted.ensures.1

pub returns-clause-keeps : goal.returns-clause-keeps
returns-clause-keeps g c =
    let p = c.args.problem.now in
    let same : c.new.result ≡ c.args.kept.now = c.new.ensures ∙ c.in_ok-from_slice.ensures.items in
    subst (λ flags. KeepsClaims p c.settle.result (λ choice more. more ≡ settled (Kept flags) choice) (g.L.TreeLog.lines c.args.log.now) (g.L.TreeLog.lines c.settle.new.log) c.args.asker.now c.settle.new.asker) same
    (c.settle.ensures.keeps p (kept_subject p c.in_ok-restricted.restricted c.new.result c.args.kept.now c.requires.flags same c.in_ok-restricted.ensures.value))

pub returns-in_err-from_slice-clause-leads : goal.returns-in_err-from_slice-clause-leads
returns-in_err-from_slice-clause-leads g c =
    led_still (g.L.TreeLog.lines c.args.log.now) c.args.asker.now

pub returns-in_err-restricted-clause-leads : goal.returns-in_err-restricted-clause-leads
returns-in_err-restricted-clause-leads g c =
    led_still (g.L.TreeLog.lines c.args.log.now) c.args.asker.now
