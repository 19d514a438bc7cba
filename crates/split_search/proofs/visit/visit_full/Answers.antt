use Rattle.std.proofs.Common.{◌≡◌, false, Some}
use Rattle.search_log.specs.declared.fault.StepFault.TheVariants.{NoMemory}
use Rattle.search_log.proofs.Leading.{led_goes, led_after}
use Rattle.split_search.specs.Walking.{next_node}
use Rattle.split_search.proofs.Told.{keeps_goes, keeps_after}
use Rattle.split_search.proofs.Visits.{visit_err}
use Rattle.split_search.proofs.visit.visit_full.Goals as goal

pub returns-in_err-family-clause-keeps : goal.returns-in_err-family-clause-keeps
returns-in_err-family-clause-keeps g c =
    let q = c.args.walk.now.subject in
    visit_err (λ f. f ≡ NoMemory) c.from_residual.result q (g.L.TreeLog.lines c.args.log.now) (g.L.TreeLog.lines c.args.log.now) c.args.asker.now c.family_at.new.asker c.args.walk.now.path c.from_residual.ensures.1
    (keeps_goes q (g.L.TreeLog.lines c.args.log.now) c.args.asker.now c.family_at.new.asker (Some c.args.walk.now.path) c.family_at.ensures.kept)

pub returns-in-Some-clause-keeps : goal.returns-in-Some-clause-keeps
returns-in-Some-clause-keeps g c =
    keeps_goes c.args.walk.now.subject (g.L.TreeLog.lines c.args.log.now) c.args.asker.now c.family_at.new.asker (Some c.args.walk.now.path) c.family_at.ensures.kept

pub returns-in_err-tell_dead-in-None-clause-keeps : goal.returns-in_err-tell_dead-in-None-clause-keeps
returns-in_err-tell_dead-in-None-clause-keeps g c =
    let q = c.args.walk.now.subject in
    let m = c.args.walk.now.path in
    visit_err (λ f. f ≡ c.in_err-tell_dead-in-None.field-0.0) c.from_residual-in_err-tell_dead-in-None.result q (g.L.TreeLog.lines c.args.log.now) (g.L.TreeLog.lines c.tell_dead.new.log) c.args.asker.now c.tell_dead.new.asker m
    c.from_residual-in_err-tell_dead-in-None.ensures.1
    (keeps_after q (g.L.TreeLog.lines c.args.log.now) (g.L.TreeLog.lines c.tell_dead.new.log) c.args.asker.now c.family_at.new.asker c.tell_dead.new.asker (Some m) (Some m) c.family_at.ensures.kept c.in_err-tell_dead-in-None.ensures.keeps)

pub returns-in_ok-tell_dead-in-None-clause-keeps : goal.returns-in_ok-tell_dead-in-None-clause-keeps
returns-in_ok-tell_dead-in-None-clause-keeps g c =
    let q = c.args.walk.now.subject in
    keeps_after q (g.L.TreeLog.lines c.args.log.now) (g.L.TreeLog.lines c.tell_dead.new.log) c.args.asker.now c.family_at.new.asker c.tell_dead.new.asker
    (Some c.args.walk.now.path) (next_node q false c.args.walk.now.path) c.family_at.ensures.kept c.in_ok-tell_dead-in-None.ensures.keeps

pub returns-in_err-family-clause-leads : goal.returns-in_err-family-clause-leads
returns-in_err-family-clause-leads g c =
    led_goes (g.L.TreeLog.lines c.args.log.now) c.args.asker.now c.family_at.new.asker c.family_at.ensures.kept

pub returns-in-Some-clause-leads : goal.returns-in-Some-clause-leads
returns-in-Some-clause-leads g c =
    led_goes (g.L.TreeLog.lines c.args.log.now) c.args.asker.now c.family_at.new.asker c.family_at.ensures.kept

pub returns-in_err-tell_dead-in-None-clause-leads : goal.returns-in_err-tell_dead-in-None-clause-leads
returns-in_err-tell_dead-in-None-clause-leads g c =
    led_after (g.L.TreeLog.lines c.args.log.now) (g.L.TreeLog.lines c.tell_dead.new.log) c.args.asker.now c.family_at.new.asker c.tell_dead.new.asker c.family_at.ensures.kept c.tell_dead.ensures.leads

pub returns-in_ok-tell_dead-in-None-clause-leads : goal.returns-in_ok-tell_dead-in-None-clause-leads
returns-in_ok-tell_dead-in-None-clause-leads g c =
    led_after (g.L.TreeLog.lines c.args.log.now) (g.L.TreeLog.lines c.tell_dead.new.log) c.args.asker.now c.family_at.new.asker c.tell_dead.new.asker c.family_at.ensures.kept c.tell_dead.ensures.leads
