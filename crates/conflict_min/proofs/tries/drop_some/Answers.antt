use Rattle.std.proofs.Common.{◌≡◌, ◌∙◌, length, refl, sym, ap}
use Rattle.cert_text.specs.declared.line.Subject.TheVariants.{Kept}
use Rattle.pick_search.specs.Blocks.Blocks.{settled}
use Rattle.conflict_min.proofs.Claims.{untouched, refuted_dropped, kept_undropped}
use Rattle.conflict_min.proofs.Flags.{cut_none, length_cut}
use Rattle.search_log.proofs.Leading.{led_still}
use Rattle.conflict_min.proofs.tries.drop_some.Goals as goal

pub returns-then-count-lt2-clause-cut : goal.returns-then-count-lt2-clause-cut
returns-then-count-lt2-clause-cut g c = record { without = sym (cut_none c.args.kept.now.items c.args.place); inconsistent = c.requires.conflict }

pub returns-in_err-tried-clause-keeps : goal.returns-in_err-tried-clause-keeps
returns-in_err-tried-clause-keeps g c = untouched _ c.from_residual.result c.args.problem.now _ (g.L.TreeLog.lines c.args.log.now) c.args.asker.now c.from_residual.ensures.1

pub settle_kept-requires-clause-flags : goal.settle_kept-requires-clause-flags
settle_kept-requires-clause-flags g c =
    ap length (c.deref-2.ensures.value ∙ c.in_ok-tried.ensures) ∙ length_cut c.deref.result.now c.args.place c.args.count ∙ ap length c.deref.ensures.value ∙ c.requires.flags

pub returns-in-Met-clause-cut : goal.returns-in-Met-clause-cut
returns-in-Met-clause-cut g c = record { without = sym (cut_none c.args.kept.now.items c.args.place); inconsistent = c.requires.conflict }

pub returns-in-Met-clause-keeps : goal.returns-in-Met-clause-keeps
returns-in-Met-clause-keeps g c =
    let kept = c.args.kept.now.items in
    kept_undropped c.args.problem.now kept kept (λ more. more ≡ settled (Kept c.deref-2.result.now) c.in_ok-_family.field-0) (g.L.TreeLog.lines c.args.log.now) (g.L.TreeLog.lines c.settle_kept.new.log)
    c.args.asker.now c.settle_kept.new.asker refl c.in_ok-_family.ensures.keeps

pub returns-in-Refuted-clause-keeps : goal.returns-in-Refuted-clause-keeps
returns-in-Refuted-clause-keeps g c =
    refuted_dropped c.args.problem.now c.args.kept.now.items c.deref-2.result.now c.in_ok-tried.tried.items c.in_ok-_family.field-0 (g.L.TreeLog.lines c.args.log.now)
    (g.L.TreeLog.lines c.settle_kept.new.log) c.args.asker.now c.settle_kept.new.asker c.deref-2.ensures.value c.in-Refuted.is c.in_ok-_family.ensures.keeps

pub returns-then-count-lt2-clause-leads : goal.returns-then-count-lt2-clause-leads
returns-then-count-lt2-clause-leads g c =
    led_still (g.L.TreeLog.lines c.args.log.now) c.args.asker.now

pub returns-in_err-tried-clause-leads : goal.returns-in_err-tried-clause-leads
returns-in_err-tried-clause-leads g c =
    led_still (g.L.TreeLog.lines c.args.log.now) c.args.asker.now
