use Rattle.std.proofs.Common.{◌≡◌, ◌+◌, false, true, set, sym, subst}
use Rattle.world_model.specs.Problem.{restricted}
use Rattle.set_family.specs.Meeting.{IsMetBy}
use Rattle.split_search.specs.Choosing.{IsChoice}
use Rattle.split_search.specs.declared.choice.Choice.TheVariants.{Refuted}
use Rattle.pick_search.specs.Blocks.Blocks.{settled}
use Rattle.pick_search.proofs.blocks.Joins.{keeps_err}
use Rattle.cert_text.specs.declared.line.Subject.TheVariants.{Kept}
use Rattle.conflict_min.specs.Shrinking.{IsShrunk}
use Rattle.conflict_min.proofs.Claims.{made_told, refuted_dropped, kept_undropped}
use Rattle.conflict_min.proofs.Passes.{put_back, shrunk_dropped, shrunk_kept}
use Rattle.conflict_min.proofs.tries.try_without.Goals as goal

pub returns-in-Refuted-clause-after : goal.returns-in-Refuted-clause-after
returns-in-Refuted-clause-after g c =
    let p = c.args.problem.now in
    shrunk_dropped p c.args.place c.args.kept.now.items c.args.families.now.items c.requires.before c.requires.within
    (subst (λ flags. IsChoice (restricted p flags) Refuted) c.deref.ensures.value (subst (IsChoice (restricted p c.deref.result.now)) c.in-Refuted.is c.in_ok-settle_kept.ensures.answer))

pub returns-in-Refuted-clause-keeps : goal.returns-in-Refuted-clause-keeps
returns-in-Refuted-clause-keeps g c =
    refuted_dropped c.args.problem.now c.args.kept.now.items c.deref.result.now (set c.args.kept.now.items c.args.place false) c.in_ok-settle_kept.field-0
    (g.L.TreeLog.lines c.args.log.now) (g.L.TreeLog.lines c.settle_kept.new.log) c.args.asker.now c.settle_kept.new.asker c.deref.ensures.value c.in-Refuted.is c.in_ok-settle_kept.ensures.keeps

pub returns-in_ok-add_family-in-Met-clause-after : goal.returns-in_ok-add_family-in-Met-clause-after
returns-in_ok-add_family-in-Met-clause-after g c =
    let p = c.args.problem.now in
    let kept = c.args.kept.now.items in
    let f = c.in-Met.family in
    subst (λ flags. IsShrunk p (c.args.place + 1) flags c.add_family.new.families.items) (sym (put_back p c.args.place kept c.args.families.now.items c.requires.before c.requires.within))
    (subst (IsShrunk p (c.args.place + 1) kept) (sym c.in_ok-add_family-in-Met.ensures)
    (shrunk_kept p c.args.place kept c.args.families.now.items c.requires.before c.requires.within f
    (subst (λ flags. IsMetBy (restricted p flags) f) c.deref.ensures.value (subst (IsChoice (restricted p c.deref.result.now)) c.in-Met.is c.in_ok-settle_kept.ensures.answer))))

pub returns-in_ok-add_family-in-Met-clause-keeps : goal.returns-in_ok-add_family-in-Met-clause-keeps
returns-in_ok-add_family-in-Met-clause-keeps g c =
    kept_undropped c.args.problem.now c.args.kept.now.items (set (set c.args.kept.now.items c.args.place false) c.args.place true) (λ more. more ≡ settled (Kept c.deref.result.now) c.in_ok-settle_kept.field-0)
    (g.L.TreeLog.lines c.args.log.now) (g.L.TreeLog.lines c.settle_kept.new.log) c.args.asker.now c.settle_kept.new.asker
    (put_back c.args.problem.now c.args.place c.args.kept.now.items c.args.families.now.items c.requires.before c.requires.within) c.in_ok-settle_kept.ensures.keeps

pub returns-in_err-add_family-in-Met-clause-keeps : goal.returns-in_err-add_family-in-Met-clause-keeps
returns-in_err-add_family-in-Met-clause-keeps g c =
    let p = c.args.problem.now in
    let a = g.L.TreeLog.lines c.args.log.now in
    let b = g.L.TreeLog.lines c.settle_kept.new.log in
    keeps_err _ c.from_residual-in_err-add_family-in-Met.result p _ a b c.args.asker.now c.settle_kept.new.asker c.from_residual-in_err-add_family-in-Met.ensures.1
    (made_told p (λ more. more ≡ settled (Kept c.deref.result.now) c.in_ok-settle_kept.field-0) a b c.args.asker.now c.settle_kept.new.asker c.in_ok-settle_kept.ensures.keeps)
