use Rattle.std.proofs.Common.{◌∙◌, true, length, inl, refl, sym, ap, subst, arith, Ok}
use Rattle.std.proofs.lemmas.List.{length-map}
use Rattle.world_model.specs.Questions.{IsConsistent}
use Rattle.search_log.proofs.Logs.{log_stays_ok, log_joins, log_ok_as}
use Rattle.pick_search.proofs.blocks.Joins.{keeps_nothing, keeps_err}
use Rattle.conflict_min.specs.Conflicts.{all_kept}
use Rattle.conflict_min.specs.Shrinking.{IsShrunk, IsDropped}
use Rattle.conflict_min.proofs.Claims.{made_joins, told_joins, dropped_joins}
use Rattle.conflict_min.proofs.Passes.{shrunk_none, least_of}
use Rattle.search_log.proofs.Leading.{led_still, led_joins}
use Rattle.conflict_min.proofs.shrink.shrink.Goals as goal

pub places-init : goal.places-init
places-init g c =
    let p = c.args.problem.now in
    let told = g.L.TreeLog.lines c.args.log.now in
    record {
      shape = refl;
      end = omega (arith, c.args.all.ok.0, ap length c.requires.all, length-map p.articulations (λ _. true));
      upto = omega arith;
      shrunk =
          subst (λ flags. IsShrunk p 0 flags c.new-families.result.items) (sym c.requires.all)
          (subst (IsShrunk p 0 (all_kept p)) (sym c.new-families.ensures.items) (shrunk_none p (subst (λ flags. IsConsistent p flags → ⊥) c.requires.all c.requires.inconsistent)));
      made = keeps_nothing {T = Unit {0}} (Ok tt) p (λ _ more. IsDropped c.args.all.items c.args.all.items more) told told c.args.asker.now (inl refl) refl;
      leads = led_still (g.L.TreeLog.lines c.args.log.now) c.args.asker.now;
      log = log_stays_ok _ c.args.log.now (g.met.L.TreeLog.steady_stays c.args.log.now) (g.met.L.TreeLog.quiet_stays c.args.log.now);
    }

pub returns-in_err-go_on-clause-keeps : goal.returns-in_err-go_on-clause-keeps
returns-in_err-go_on-clause-keeps g c =
    let p = c.args.problem.now in
    let a = g.L.TreeLog.lines c.args.log.now in
    let b = g.L.TreeLog.lines c.places.log in
    let d = g.L.TreeLog.lines c.go_on.new.log in
    keeps_err _ c.from_residual.result p _ a d c.args.asker.now c.go_on.new.asker c.from_residual.ensures.1
    (told_joins p (IsDropped c.args.all.items c.places.kept.items) a b d c.args.asker.now c.places.asker c.go_on.new.asker c.places.invariant.log.told c.places.invariant.made c.in_err-go_on.ensures.keeps)

pub places-preserved : goal.places-preserved
places-preserved g c =
    let p = c.args.problem.now in
    let old = c.args.log.now in
    let here = c.places.log in
    let new = c.go_on.new.log in
    record {
      shape = c.go_on.ensures.shape ∙ c.places.invariant.shape;
      end = c.places.invariant.end;
      upto = omega (arith, c.in_ok-go_on.ensures.further);
      shrunk = c.in_ok-go_on.ensures.after;
      made =
          made_joins p (IsDropped c.args.all.items c.places.kept.items) (IsDropped c.places.kept.items c.go_on.new.kept.items) (IsDropped c.args.all.items c.go_on.new.kept.items)
          (g.L.TreeLog.lines old) (g.L.TreeLog.lines here) (g.L.TreeLog.lines new) c.args.asker.now c.places.asker c.go_on.new.asker c.places.invariant.log.told
          (λ first second. dropped_joins c.args.all.items c.places.kept.items c.go_on.new.kept.items first second) c.places.invariant.made c.in_ok-go_on.ensures.keeps;
      leads =
          led_joins (g.L.TreeLog.lines c.args.log.now) (g.L.TreeLog.lines c.places.log) (g.L.TreeLog.lines c.go_on.new.log) c.args.asker.now c.places.asker c.go_on.new.asker c.places.invariant.log.told c.places.invariant.leads
          c.go_on.ensures.leads;
      log = log_ok_as _ _ old new (log_joins _ _ old here new (g.met.L.TreeLog.steady_joins old here new) (g.met.L.TreeLog.quiet_joins old here new) c.places.invariant.log c.in_ok-go_on.ensures.log);
    }

pub returns-clause-least : goal.returns-clause-least
returns-clause-least g c =
    let p = c.args.problem.now in
    least_of p c.places.kept.items c.places.families.items
    (subst (λ count. IsShrunk p count c.places.kept.items c.places.families.items) (omega (arith, c.places.invariant.end, c.places.invariant.upto, c.places-test.false, c.places.invariant.shrunk.within, c.places.invariant.shrunk.flags)) c.places.invariant.shrunk)

pub returns-in_err-go_on-clause-leads : goal.returns-in_err-go_on-clause-leads
returns-in_err-go_on-clause-leads g c =
    led_joins (g.L.TreeLog.lines c.args.log.now) (g.L.TreeLog.lines c.places.log) (g.L.TreeLog.lines c.go_on.new.log) c.args.asker.now c.places.asker c.go_on.new.asker c.places.invariant.log.told c.places.invariant.leads
    c.go_on.ensures.leads
