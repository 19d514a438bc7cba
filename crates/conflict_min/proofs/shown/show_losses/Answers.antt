use Rattle.std.proofs.Common.{◌≡◌, ◌+◌, ◌∙◌, map, length, take, false, true, set, refl, ap, arith, take_all, Ok}
use Rattle.search_log.proofs.Logs.{log_stays_ok, log_joins, log_ok_as}
use Rattle.cert_text.specs.declared.line.Subject.TheVariants.{Kept}
use Rattle.pick_search.specs.Blocks.Blocks.{claimed}
use Rattle.pick_search.proofs.blocks.Joins.{keeps_nothing, keeps_err}
use Rattle.conflict_min.specs.Conflicts.{places_from, loss_claims}
use Rattle.conflict_min.proofs.Claims.{untouched, loss, made_wider, made_joins, told_joins, losses_more}
use Rattle.conflict_min.proofs.Passes.{loss_at}
use Rattle.search_log.proofs.Leading.{led_still, led_joins}
use Rattle.conflict_min.proofs.shown.show_losses.Goals as goal

pub returns-in_err-places-clause-keeps : goal.returns-in_err-places-clause-keeps
returns-in_err-places-clause-keeps g c =
    untouched _ c.from_residual.result c.args.problem.now _ (g.L.TreeLog.lines c.args.log.now) c.args.asker.now c.from_residual.ensures.1

pub show_loss-requires-clause-within : goal.show_loss-requires-clause-within
show_loss-requires-clause-within g c =
    (loss_at c.args.problem.now c.args.conflict.now.kept.items c.deref-in-losses.result.now c.args.conflict.now.families.items c.deref-family-items.result.now c.in_ok-places.places.items
    c.losses.nth c.index.result.now c.family-item.result c.requires.least.1 c.deref-in-losses.ensures.value c.deref-family-items.ensures.value
    (c.in_ok-places.ensures ∙ ap (places_from 0) c.deref.ensures.value) c.losses-test.true c.index.ensures c.family-item.is).0

pub show_loss-requires-clause-met : goal.show_loss-requires-clause-met
show_loss-requires-clause-met g c =
    (loss_at c.args.problem.now c.args.conflict.now.kept.items c.deref-in-losses.result.now c.args.conflict.now.families.items c.deref-family-items.result.now c.in_ok-places.places.items
    c.losses.nth c.index.result.now c.family-item.result c.requires.least.1 c.deref-in-losses.ensures.value c.deref-family-items.ensures.value
    (c.in_ok-places.ensures ∙ ap (places_from 0) c.deref.ensures.value) c.losses-test.true c.index.ensures c.family-item.is).1

pub losses-init : goal.losses-init
losses-init g c =
    let told = g.L.TreeLog.lines c.args.log.now in
    record {
      shape = refl;
      made =
          keeps_nothing {T = Unit {0}} (Ok tt) c.args.problem.now (λ _ more. more ≡ map (loss c.args.conflict.now.kept.items) (take 0 c.in_ok-places.places.items)) told told c.args.asker.now refl refl;
      leads = led_still told c.args.asker.now;
      log = log_stays_ok _ c.args.log.now (g.met.L.TreeLog.steady_stays c.args.log.now) (g.met.L.TreeLog.quiet_stays c.args.log.now);
    }

pub losses-preserved : goal.losses-preserved
losses-preserved g c =
    let kept = c.args.conflict.now.kept.items in
    let places = c.in_ok-places.places.items in
    let nth = c.losses.nth in
    let old = c.args.log.now in
    let here = c.losses.log in
    let new = c.show_loss.new.log in
    record {
      shape = c.show_loss.ensures.shape ∙ c.losses.invariant.shape;
      made =
          made_joins c.args.problem.now (λ more. more ≡ map (loss kept) (take nth places)) (λ more. more ≡ claimed (Kept (set c.deref-in-losses.result.now c.index.result.now false)) true)
          (λ more. more ≡ map (loss kept) (take (nth + 1) places)) (g.L.TreeLog.lines old) (g.L.TreeLog.lines here) (g.L.TreeLog.lines new) c.args.asker.now c.losses.asker c.show_loss.new.asker
          c.losses.invariant.log.told
          (λ first second one two.
          losses_more kept places nth c.index.result.now first second
          (omega (arith, c.losses-test.true, ap length c.deref-family-items.ensures.value, c.requires.least.1.count, ap length (c.in_ok-places.ensures ∙ ap (places_from 0) c.deref.ensures.value))) c.index.ensures one
          (two ∙ ap (λ flags. claimed (Kept (set flags c.index.result.now false)) true) c.deref-in-losses.ensures.value))
          c.losses.invariant.made c.in_ok-show_loss.ensures.keeps;
      leads =
          led_joins (g.L.TreeLog.lines c.args.log.now) (g.L.TreeLog.lines c.losses.log) (g.L.TreeLog.lines c.show_loss.new.log) c.args.asker.now c.losses.asker c.show_loss.new.asker c.losses.invariant.log.told c.losses.invariant.leads
          c.show_loss.ensures.leads;
      log = log_ok_as _ _ old new (log_joins _ _ old here new (g.met.L.TreeLog.steady_joins old here new) (g.met.L.TreeLog.quiet_joins old here new) c.losses.invariant.log c.in_ok-show_loss.ensures.log);
    }

pub returns-in_err-show_loss-clause-keeps : goal.returns-in_err-show_loss-clause-keeps
returns-in_err-show_loss-clause-keeps g c =
    let p = c.args.problem.now in
    let a = g.L.TreeLog.lines c.args.log.now in
    let b = g.L.TreeLog.lines c.losses.log in
    let d = g.L.TreeLog.lines c.show_loss.new.log in
    keeps_err _ c.from_residual-in_err-show_loss.result p _ a d c.args.asker.now c.show_loss.new.asker c.from_residual-in_err-show_loss.ensures.1
    (told_joins p (λ more. more ≡ map (loss c.args.conflict.now.kept.items) (take c.losses.nth c.in_ok-places.places.items)) a b d c.args.asker.now c.losses.asker c.show_loss.new.asker
    c.losses.invariant.log.told c.losses.invariant.made c.in_err-show_loss.ensures.keeps)

pub returns-clause-keeps : goal.returns-clause-keeps
returns-clause-keeps g c =
    let kept = c.args.conflict.now.kept.items in
    let places = c.in_ok-places.places.items in
    let same : places ≡ places_from 0 kept = c.in_ok-places.ensures ∙ ap (places_from 0) c.deref.ensures.value in
    made_wider c.args.problem.now (λ more. more ≡ map (loss kept) (take c.losses.nth places)) (λ more. more ≡ loss_claims kept) (g.L.TreeLog.lines c.args.log.now) (g.L.TreeLog.lines c.losses.log) c.args.asker.now c.losses.asker
    (λ more is.
    is
    ∙ ap (map (loss kept)) (take_all c.losses.nth places (omega (arith, c.losses-test.false, ap length c.deref-family-items.ensures.value, c.requires.least.1.count, ap length same)) ∙ same))
    c.losses.invariant.made

pub returns-then-is_dropping-clause-leads : goal.returns-then-is_dropping-clause-leads
returns-then-is_dropping-clause-leads g c =
    led_still (g.L.TreeLog.lines c.args.log.now) c.args.asker.now

pub returns-in_err-places-clause-leads : goal.returns-in_err-places-clause-leads
returns-in_err-places-clause-leads g c =
    led_still (g.L.TreeLog.lines c.args.log.now) c.args.asker.now

pub returns-in_err-show_loss-clause-leads : goal.returns-in_err-show_loss-clause-leads
returns-in_err-show_loss-clause-leads g c =
    led_joins (g.L.TreeLog.lines c.args.log.now) (g.L.TreeLog.lines c.losses.log) (g.L.TreeLog.lines c.show_loss.new.log) c.args.asker.now c.losses.asker c.show_loss.new.asker c.losses.invariant.log.told c.losses.invariant.leads
    c.show_loss.ensures.leads
