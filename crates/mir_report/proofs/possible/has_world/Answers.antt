use Rattle.std.proofs.Common.{◌≡◌, ◌∙◌, ◌↔◌, true, not, slice_get, Ok, sym, refl, ap, subst}
use Rattle.cert_text.specs.declared.line.Subject.TheVariants.{Kept}
use Rattle.world_model.specs.Questions.{IsMet}
use Rattle.search_log.proofs.Logs.{log_stays_ok}
use Rattle.pick_search.specs.Blocks.Blocks.{claimed}
use Rattle.pick_search.proofs.blocks.Joins.{keeps_made, keeps_nothing}
use Rattle.mir_report.specs.Possible.{whole_claim}
use Rattle.mir_report.proofs.Laws.{first_set_tells, no_whole_claim, whole_claim_made}
use Rattle.search_log.proofs.Leading.{led_still}
use Rattle.mir_report.proofs.possible.has_world.Goals as goal

pub returns-in-Some-clause-answer : goal.returns-in-Some-clause-answer
returns-in-Some-clause-answer g c =
    subst (λ empty. (not empty ≡ true) ↔ IsMet c.args.problem.now) (sym c.is_empty.ensures)
    (first_set_tells c.args.problem.now c.args.mir.now.sets.items c.in-Some.set.now c.requires.sets (sym (c.in-Some.ensures.value ∙ ap (λ sets. slice_get sets 0) c.deref.ensures.value)))

pub returns-in-Some-clause-keeps : goal.returns-in-Some-clause-keeps
returns-in-Some-clause-keeps g c =
    let p = c.args.problem.now in
    let sets = c.args.mir.now.sets.items in
    keeps_nothing (Ok (not c.is_empty.result)) p (λ some more. more ≡ whole_claim p sets some) (g.L.TreeLog.lines c.args.log.now) (g.L.TreeLog.lines c.args.log.now) c.args.asker.now
    (no_whole_claim p sets c.in-Some.set.now (not c.is_empty.result) (sym (c.in-Some.ensures.value ∙ ap (λ sets. slice_get sets 0) c.deref.ensures.value))) refl

pub returns-in-None-clause-keeps : goal.returns-in-None-clause-keeps
returns-in-None-clause-keeps g c =
    let p = c.args.problem.now in
    let sets = c.args.mir.now.sets.items in
    keeps_made c.is_met.result p (λ some more. more ≡ claimed (Kept p.kept) some) (λ some more. more ≡ whole_claim p sets some)
    (g.L.TreeLog.lines c.args.log.now) (g.L.TreeLog.lines c.is_met.new.log) c.args.asker.now c.is_met.new.asker
    (λ some more is. is ∙ whole_claim_made p sets some (sym (c.in-None.ensures.value ∙ ap (λ sets. slice_get sets 0) c.deref.ensures.value))) c.is_met.ensures.keeps

pub returns-in-Some-clause-log : goal.returns-in-Some-clause-log
returns-in-Some-clause-log g c = log_stays_ok _ c.args.log.now (g.met.L.TreeLog.steady_stays c.args.log.now) (g.met.L.TreeLog.quiet_stays c.args.log.now)

pub returns-in-Some-clause-leads : goal.returns-in-Some-clause-leads
returns-in-Some-clause-leads g c =
    led_still (g.L.TreeLog.lines c.args.log.now) c.args.asker.now
