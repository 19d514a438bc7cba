use Rattle.std.proofs.Common.{◌≡◌, Ok, Err, true, false, refl, subst}
use Rattle.std.specs.Prelude.{IfSome}
use Rattle.cert_text.specs.declared.line.Subject.TheVariants.{Narrowed}
use Rattle.search_log.specs.declared.fault.StepFault.TheVariants.{NoMemory}
use Rattle.search_log.proofs.Logs.{log_as, log_memory, log_ok_as, log_stays_ok}
use Rattle.pick_search.specs.Blocks.Blocks.{claimed}
use Rattle.pick_search.proofs.blocks.Joins.{keeps_err, keeps_after, keeps_step, nothing_told}
use Rattle.dead_pairs.specs.Lone.{IsClosing}
use Rattle.mir_report.specs.Steps.{claim_if_refuted}
use Rattle.mir_report.proofs.Subjects.{closed_subject, dead_is_impossible}
use Rattle.search_log.proofs.Leading.{led_goes, led_after}
use Rattle.mir_report.proofs.possible.refute_rel.Goals as goal

pub returns-in_err-closing-clause-keeps : goal.returns-in_err-closing-clause-keeps
returns-in_err-closing-clause-keeps g c =
    let p = c.args.problem.now in
    let told = g.L.TreeLog.lines c.args.log.now in
    keeps_err (λ f. f ≡ NoMemory) c.from_residual.result p (λ done more. more ≡ claim_if_refuted c.args.pair c.args.rel done) told told c.args.asker.now c.why_dead.new.asker c.from_residual.ensures.1
    (nothing_told p told c.args.asker.now c.why_dead.new.asker c.why_dead.ensures.kept)

pub returns-in_err-closing-clause-log : goal.returns-in_err-closing-clause-log
returns-in_err-closing-clause-log g c = log_memory c.from_residual.result c.args.log.now (g.met.L.TreeLog.steady_stays c.args.log.now) (g.met.L.TreeLog.quiet_stays c.args.log.now) c.from_residual.ensures.1

pub returns-in_default-clause-keeps : goal.returns-in_default-clause-keeps
returns-in_default-clause-keeps g c =
    keeps_step (Ok false) c.args.problem.now (λ done more. more ≡ claim_if_refuted c.args.pair c.args.rel done) (g.L.TreeLog.lines c.args.log.now) c.args.asker.now c.why_dead.new.asker refl c.why_dead.ensures.kept

pub returns-in_default-clause-log : goal.returns-in_default-clause-log
returns-in_default-clause-log g c = log_stays_ok _ c.args.log.now (g.met.L.TreeLog.steady_stays c.args.log.now) (g.met.L.TreeLog.quiet_stays c.args.log.now)

pub returns-in_err-refute-clause-keeps : goal.returns-in_err-refute-clause-keeps
returns-in_err-refute-clause-keeps g c =
    let p = c.args.problem.now in
    let old = g.L.TreeLog.lines c.args.log.now in
    let new = g.L.TreeLog.lines c.refute.new.log in
    let closes = subst (λ o. IfSome o (IsClosing p c.why_dead.new.asker.solver.state (record { pair = c.args.pair; rel = c.args.rel }))) c.in-Some.is c.in_ok-closing.ensures.closing in
    keeps_err (λ f. f ≡ c.in_err-refute.field-0.0) c.from_residual-in_err-refute.result p (λ done more. more ≡ claim_if_refuted c.args.pair c.args.rel done) old new c.args.asker.now c.refute.new.asker c.from_residual-in_err-refute.ensures.1
    (keeps_after {T = Unit {0}} (Err c.in_err-refute.field-0.0) p (λ _ more. more ≡ claimed (Narrowed c.args.pair c.args.rel) false) old new c.args.asker.now c.why_dead.new.asker c.refute.new.asker c.why_dead.ensures.kept
    (c.in_err-refute.ensures.keeps p (closed_subject p c.why_dead.new.asker.solver.state c.args.pair c.args.rel c.in-Some.closing c.requires.within closes)))

pub returns-in_err-refute-clause-log : goal.returns-in_err-refute-clause-log
returns-in_err-refute-clause-log g c = log_as _ c.from_residual-in_err-refute.result c.args.log.now c.refute.new.log c.from_residual-in_err-refute.ensures.1 c.in_err-refute.ensures.log

pub returns-clause-keeps : goal.returns-clause-keeps
returns-clause-keeps g c =
    let p = c.args.problem.now in
    let old = g.L.TreeLog.lines c.args.log.now in
    let new = g.L.TreeLog.lines c.refute.new.log in
    let closes = subst (λ o. IfSome o (IsClosing p c.why_dead.new.asker.solver.state (record { pair = c.args.pair; rel = c.args.rel }))) c.in-Some.is c.in_ok-closing.ensures.closing in
    keeps_after (Ok true) p (λ _ more. more ≡ claimed (Narrowed c.args.pair c.args.rel) false) old new c.args.asker.now c.why_dead.new.asker c.refute.new.asker c.why_dead.ensures.kept
    (c.in_ok-refute.ensures.keeps p (closed_subject p c.why_dead.new.asker.solver.state c.args.pair c.args.rel c.in-Some.closing c.requires.within closes))

pub returns-clause-answer : goal.returns-clause-answer
returns-clause-answer g c = λ yes r.
    let p = c.args.problem.now in
    let closes = subst (λ o. IfSome o (IsClosing p c.why_dead.new.asker.solver.state (record { pair = c.args.pair; rel = c.args.rel }))) c.in-Some.is c.in_ok-closing.ensures.closing in
    dead_is_impossible p c.args.pair c.args.rel c.requires.within closes.dead r

pub refute-requires : goal.refute-requires
refute-requires g c =
    let p = c.args.problem.now in
    let closes = subst (λ o. IfSome o (IsClosing p c.why_dead.new.asker.solver.state (record { pair = c.args.pair; rel = c.args.rel }))) c.in-Some.is c.in_ok-closing.ensures.closing in
    closes.from_one

pub returns-clause-log : goal.returns-clause-log
returns-clause-log g c = log_ok_as _ _ c.args.log.now c.refute.new.log c.in_ok-refute.ensures.log

pub returns-in_err-closing-clause-leads : goal.returns-in_err-closing-clause-leads
returns-in_err-closing-clause-leads g c =
    led_goes (g.L.TreeLog.lines c.args.log.now) c.args.asker.now c.why_dead.new.asker c.why_dead.ensures.kept

pub returns-in_default-clause-leads : goal.returns-in_default-clause-leads
returns-in_default-clause-leads g c =
    led_goes (g.L.TreeLog.lines c.args.log.now) c.args.asker.now c.why_dead.new.asker c.why_dead.ensures.kept

pub returns-in_err-refute-clause-leads : goal.returns-in_err-refute-clause-leads
returns-in_err-refute-clause-leads g c =
    led_after (g.L.TreeLog.lines c.args.log.now) (g.L.TreeLog.lines c.refute.new.log) c.args.asker.now c.why_dead.new.asker c.refute.new.asker c.why_dead.ensures.kept c.refute.ensures.leads

pub returns-clause-leads : goal.returns-clause-leads
returns-clause-leads g c =
    led_after (g.L.TreeLog.lines c.args.log.now) (g.L.TreeLog.lines c.refute.new.log) c.args.asker.now c.why_dead.new.asker c.refute.new.asker c.why_dead.ensures.kept c.refute.ensures.leads
