use Rattle.std.proofs.Common.{◌≡◌, ◌∙◌, true, false, Ok, ap, subst}
use Rattle.cert_text.specs.declared.line.Subject.TheVariants.{Kept}
use Rattle.search_log.proofs.Logs.{log_memory}
use Rattle.pick_search.specs.Blocks.Blocks.{claimed, settled, KeepsClaims}
use Rattle.pick_search.proofs.blocks.Joins.{keeps_made}
use Rattle.mir_report.proofs.Subjects.{kept_problem}
use Rattle.mir_report.proofs.Told.{err_first}
use Rattle.search_log.proofs.Leading.{led_still}
use Rattle.mir_report.proofs.possible.is_met.Goals as goal

pub returns-in_err-kept_flags-clause-keeps : goal.returns-in_err-kept_flags-clause-keeps
returns-in_err-kept_flags-clause-keeps g c =
    err_first _ c.from_residual.result c.args.problem.now (λ some more. more ≡ claimed (Kept c.args.problem.now.kept) some) (g.L.TreeLog.lines c.args.log.now) c.args.asker.now c.from_residual.ensures.1

pub returns-in_err-kept_flags-clause-log : goal.returns-in_err-kept_flags-clause-log
returns-in_err-kept_flags-clause-log g c =
    log_memory c.from_residual.result c.args.log.now (g.met.L.TreeLog.steady_stays c.args.log.now) (g.met.L.TreeLog.quiet_stays c.args.log.now) c.from_residual.ensures.1

pub returns-in_err-kept_flags-clause-leads : goal.returns-in_err-kept_flags-clause-leads
returns-in_err-kept_flags-clause-leads g c =
    led_still (g.L.TreeLog.lines c.args.log.now) c.args.asker.now

pub returns-in-Met-clause-keeps : goal.returns-in-Met-clause-keeps
returns-in-Met-clause-keeps g c =
    let p = c.args.problem.now in
    let old = g.L.TreeLog.lines c.args.log.now in
    let new = g.L.TreeLog.lines c.settle.new.log in
    let one = c.args.asker.now in
    let other = c.settle.new.asker in
    keeps_made (Ok true) p (λ some more. more ≡ claimed (Kept c.new.result) some) (λ some more. more ≡ claimed (Kept p.kept) some) old new one other
    (λ some more is. is ∙ ap (λ flags. claimed (Kept flags) some) (c.new.ensures ∙ c.in_ok-kept_flags.ensures))
    (subst (λ choice. KeepsClaims p (Ok choice) (λ choice more. more ≡ settled (Kept c.new.result) choice) old new one other) c.in-Met.is
    (c.in_ok-settle.ensures.keeps p (kept_problem p c.new.result c.facts.ensures.built (c.new.ensures ∙ c.in_ok-kept_flags.ensures))))

pub returns-clause-keeps : goal.returns-clause-keeps
returns-clause-keeps g c =
    let p = c.args.problem.now in
    let old = g.L.TreeLog.lines c.args.log.now in
    let new = g.L.TreeLog.lines c.settle.new.log in
    let one = c.args.asker.now in
    let other = c.settle.new.asker in
    keeps_made (Ok false) p (λ some more. more ≡ claimed (Kept c.new.result) some) (λ some more. more ≡ claimed (Kept p.kept) some) old new one other
    (λ some more is. is ∙ ap (λ flags. claimed (Kept flags) some) (c.new.ensures ∙ c.in_ok-kept_flags.ensures))
    (subst (λ choice. KeepsClaims p (Ok choice) (λ choice more. more ≡ settled (Kept c.new.result) choice) old new one other) c.in-Refuted.is
    (c.in_ok-settle.ensures.keeps p (kept_problem p c.new.result c.facts.ensures.built (c.new.ensures ∙ c.in_ok-kept_flags.ensures))))
