use Rattle.std.proofs.Common.{◌≡◌, ◌+◌, ◌∙◌, sym, ap, subst, arith}
use Rattle.world_model.specs.Questions.{IsConsistent}
use Rattle.search_log.proofs.Logs.{log_joins, log_ok_as}
use Rattle.pick_search.proofs.blocks.Joins.{keeps_err}
use Rattle.conflict_min.specs.Shrinking.{cut, IsShrunk, IsDropped}
use Rattle.conflict_min.proofs.Claims.{made_joins, told_joins, dropped_joins}
use Rattle.conflict_min.proofs.Flags.{cut_none}
use Rattle.conflict_min.proofs.Passes.{shrunk_cut}
use Rattle.search_log.proofs.Leading.{led_joins}
use Rattle.conflict_min.proofs.shrink.pass_some.Goals as goal

pub returns-then-dropped-gt0-clause-after : goal.returns-then-dropped-gt0-clause-after
returns-then-dropped-gt0-clause-after g c =
    let p = c.args.problem.now in
    let dropped = c.in_ok-dropped.dropped in
    let families = c.args.families.now.items in
    let those = c.in_ok-dropped.ensures.cut in
    subst (λ flags. IsShrunk p (c.args.place + dropped) flags families) (sym those.without)
    (shrunk_cut p c.args.place dropped c.args.kept.now.items families c.requires.before (omega (arith, c.in_ok-dropped.ensures.upto, c.requires.upto))
    (subst (λ flags. IsConsistent p flags → ⊥) those.without those.inconsistent))

pub try_without-requires-clause-before : goal.try_without-requires-clause-before
try_without-requires-clause-before g c =
    let kept = c.args.kept.now.items in
    let none : c.in_ok-dropped.dropped ≡ 0 = omega (arith, c.if-dropped-gt0.false) in
    subst (λ flags. IsShrunk c.args.problem.now c.args.place flags c.args.families.now.items)
    (sym (c.in_ok-dropped.ensures.cut.without ∙ ap (cut kept c.args.place) none ∙ cut_none kept c.args.place)) c.requires.before

pub returns-in_err-try_without-clause-keeps : goal.returns-in_err-try_without-clause-keeps
returns-in_err-try_without-clause-keeps g c =
    let p = c.args.problem.now in
    let a = g.L.TreeLog.lines c.args.log.now in
    let b = g.L.TreeLog.lines c.drop_some.new.log in
    let d = g.L.TreeLog.lines c.try_without.new.log in
    keeps_err _ c.from_residual-in_err-try_without.result p _ a d c.args.asker.now c.try_without.new.asker c.from_residual-in_err-try_without.ensures.1
    (told_joins p (IsDropped c.args.kept.now.items c.drop_some.new.kept.items) a b d c.args.asker.now c.drop_some.new.asker c.try_without.new.asker c.in_ok-dropped.ensures.log.told c.in_ok-dropped.ensures.keeps
    c.in_err-try_without.ensures.keeps)

pub returns-clause-keeps : goal.returns-clause-keeps
returns-clause-keeps g c =
    let old = c.args.kept.now.items in
    let here = c.drop_some.new.kept.items in
    let new = c.try_without.new.kept.items in
    made_joins c.args.problem.now (IsDropped old here) (IsDropped here new) (IsDropped old new) (g.L.TreeLog.lines c.args.log.now) (g.L.TreeLog.lines c.drop_some.new.log)
    (g.L.TreeLog.lines c.try_without.new.log) c.args.asker.now c.drop_some.new.asker c.try_without.new.asker c.in_ok-dropped.ensures.log.told (dropped_joins old here new)
    c.in_ok-dropped.ensures.keeps c.in_ok-try_without.ensures.keeps

pub returns-clause-log : goal.returns-clause-log
returns-clause-log g c =
    let old = c.args.log.now in
    let here = c.drop_some.new.log in
    let new = c.try_without.new.log in
    log_ok_as _ _ old new (log_joins _ _ old here new (g.met.L.TreeLog.steady_joins old here new) (g.met.L.TreeLog.quiet_joins old here new) c.in_ok-dropped.ensures.log c.in_ok-try_without.ensures.log)

pub returns-in_err-try_without-clause-leads : goal.returns-in_err-try_without-clause-leads
returns-in_err-try_without-clause-leads g c =
    led_joins (g.L.TreeLog.lines c.args.log.now) (g.L.TreeLog.lines c.drop_some.new.log) (g.L.TreeLog.lines c.try_without.new.log) c.args.asker.now c.drop_some.new.asker c.try_without.new.asker c.in_ok-dropped.ensures.log.told c.drop_some.ensures.leads
    c.try_without.ensures.leads

pub returns-clause-leads : goal.returns-clause-leads
returns-clause-leads g c =
    led_joins (g.L.TreeLog.lines c.args.log.now) (g.L.TreeLog.lines c.drop_some.new.log) (g.L.TreeLog.lines c.try_without.new.log) c.args.asker.now c.drop_some.new.asker c.try_without.new.asker c.in_ok-dropped.ensures.log.told c.drop_some.ensures.leads
    c.try_without.ensures.leads
