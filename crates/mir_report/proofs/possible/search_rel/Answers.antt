use Rattle.std.proofs.Common.{◌≡◌, ◌∙◌, true≢false, All, Ok, refl, sym, subst}
use Rattle.std.proofs.lemmas.List.Elements.{All-push}
use Rattle.cert_text.specs.declared.line.Subject.TheVariants.{Narrowed}
use Rattle.search_log.proofs.Logs.{log_as, log_memory, log_ok_as, log_then_memory}
use Rattle.set_family.specs.Meeting.{IsMetBy}
use Rattle.split_search.specs.Choosing.{IsChoice}
use Rattle.pick_search.specs.Blocks.Blocks.{claimed, settled, KeepsClaims}
use Rattle.pick_search.proofs.blocks.Joins.{keeps_err}
use Rattle.mir_report.proofs.Subjects.{pair_problem, met_by_above, met_is_possible}
use Rattle.mir_report.proofs.Told.{err_first, err_after}
use Rattle.search_log.proofs.Leading.{led_still}
use Rattle.mir_report.proofs.possible.search_rel.Goals as goal

pub returns-in_err-narrowed-clause-keeps : goal.returns-in_err-narrowed-clause-keeps
returns-in_err-narrowed-clause-keeps g c =
    err_first _ c.from_residual.result c.args.problem.now (λ some more. more ≡ claimed (Narrowed c.args.pair c.args.rel) some) (g.L.TreeLog.lines c.args.log.now) c.args.asker.now c.from_residual.ensures.1

pub returns-in_err-narrowed-clause-log : goal.returns-in_err-narrowed-clause-log
returns-in_err-narrowed-clause-log g c = log_memory c.from_residual.result c.args.log.now (g.met.L.TreeLog.steady_stays c.args.log.now) (g.met.L.TreeLog.quiet_stays c.args.log.now) c.from_residual.ensures.1

pub settle-requires : goal.settle-requires
settle-requires g c = record { shape = c.requires.shape ∙ sym c.in_ok-narrowed.ensures.shape }

pub returns-in_err-family-clause-keeps : goal.returns-in_err-family-clause-keeps
returns-in_err-family-clause-keeps g c =
    let p = c.args.problem.now in
    keeps_err (λ f. f ≡ c.in_err-family.field-0.0) c.from_residual-in_err-family.result p (λ some more. more ≡ claimed (Narrowed c.args.pair c.args.rel) some) (g.L.TreeLog.lines c.args.log.now) (g.L.TreeLog.lines c.settle.new.log) c.args.asker.now c.settle.new.asker
    c.from_residual-in_err-family.ensures.1 (c.in_err-family.ensures.keeps p (pair_problem p c.args.pair c.args.rel c.one.result c.in_ok-narrowed.narrowed c.requires.within c.one.ensures c.in_ok-narrowed.ensures.value))

pub returns-in_err-family-clause-log : goal.returns-in_err-family-clause-log
returns-in_err-family-clause-log g c = log_as _ c.from_residual-in_err-family.result c.args.log.now c.settle.new.log c.from_residual-in_err-family.ensures.1 c.in_err-family.ensures.log

pub returns-in_err-put-in-Met-clause-keeps : goal.returns-in_err-put-in-Met-clause-keeps
returns-in_err-put-in-Met-clause-keeps g c =
    let p = c.args.problem.now in
    err_after _ c.from_residual-in_err-put-in-Met.result c.in_ok-family.field-0 p (λ choice more. more ≡ settled (Narrowed c.args.pair c.args.rel) choice) (λ some more. more ≡ claimed (Narrowed c.args.pair c.args.rel) some)
    (g.L.TreeLog.lines c.args.log.now) (g.L.TreeLog.lines c.settle.new.log) c.args.asker.now c.settle.new.asker c.from_residual-in_err-put-in-Met.ensures.1
    (c.in_ok-family.ensures.keeps p (pair_problem p c.args.pair c.args.rel c.one.result c.in_ok-narrowed.narrowed c.requires.within c.one.ensures c.in_ok-narrowed.ensures.value))

pub returns-in_err-put-in-Met-clause-log : goal.returns-in_err-put-in-Met-clause-log
returns-in_err-put-in-Met-clause-log g c =
    log_then_memory _ c.from_residual-in_err-put-in-Met.result c.args.log.now c.settle.new.log c.from_residual-in_err-put-in-Met.ensures.1 c.in_ok-family.ensures.log

pub returns-in-Met-clause-families : goal.returns-in-Met-clause-families
returns-in-Met-clause-families g c =
    let p = c.args.problem.now in
    let met = subst (IsChoice c.in_ok-narrowed.narrowed) c.in-Met.is c.in_ok-family.ensures.answer in
    subst (All (IsMetBy p)) (sym c.in_ok-put-in-Met.ensures)
    (All-push (IsMetBy p) c.args.families.now.items c.in-Met.family c.requires.families
    (met_by_above p c.in_ok-narrowed.narrowed c.args.pair c.args.rel c.one.result c.in-Met.family c.one.ensures c.in_ok-narrowed.ensures.value met))

pub returns-in-Met-clause-answer : goal.returns-in-Met-clause-answer
returns-in-Met-clause-answer g c =
    let p = c.args.problem.now in
    let met = subst (IsChoice c.in_ok-narrowed.narrowed) c.in-Met.is c.in_ok-family.ensures.answer in (
      λ _. (met_is_possible p c.in_ok-narrowed.narrowed c.args.pair c.args.rel c.one.result c.requires.within c.one.ensures c.in_ok-narrowed.ensures.value).0 (c.in-Met.family, met.met),
      λ _. refl,
    )

pub returns-in-Met-clause-keeps : goal.returns-in-Met-clause-keeps
returns-in-Met-clause-keeps g c =
    let p = c.args.problem.now in
    subst (λ choice. KeepsClaims p (Ok choice) (λ choice more. more ≡ settled (Narrowed c.args.pair c.args.rel) choice) (g.L.TreeLog.lines c.args.log.now) (g.L.TreeLog.lines c.settle.new.log) c.args.asker.now c.settle.new.asker) c.in-Met.is
    (c.in_ok-family.ensures.keeps p (pair_problem p c.args.pair c.args.rel c.one.result c.in_ok-narrowed.narrowed c.requires.within c.one.ensures c.in_ok-narrowed.ensures.value))

pub returns-in-Met-clause-log : goal.returns-in-Met-clause-log
returns-in-Met-clause-log g c = log_ok_as _ _ c.args.log.now c.settle.new.log c.in_ok-family.ensures.log

pub returns-clause-answer : goal.returns-clause-answer
returns-clause-answer g c =
    let p = c.args.problem.now in
    let none = subst (IsChoice c.in_ok-narrowed.narrowed) c.in-Refuted.is c.in_ok-family.ensures.answer in (
      λ h. absurd (true≢false (sym h)),
      λ r. absurd (none ((met_is_possible p c.in_ok-narrowed.narrowed c.args.pair c.args.rel c.one.result c.requires.within c.one.ensures c.in_ok-narrowed.ensures.value).1 r)),
    )

pub returns-clause-keeps : goal.returns-clause-keeps
returns-clause-keeps g c =
    let p = c.args.problem.now in
    subst (λ choice. KeepsClaims p (Ok choice) (λ choice more. more ≡ settled (Narrowed c.args.pair c.args.rel) choice) (g.L.TreeLog.lines c.args.log.now) (g.L.TreeLog.lines c.settle.new.log) c.args.asker.now c.settle.new.asker) c.in-Refuted.is
    (c.in_ok-family.ensures.keeps p (pair_problem p c.args.pair c.args.rel c.one.result c.in_ok-narrowed.narrowed c.requires.within c.one.ensures c.in_ok-narrowed.ensures.value))

pub returns-clause-log : goal.returns-clause-log
returns-clause-log g c = log_ok_as _ _ c.args.log.now c.settle.new.log c.in_ok-family.ensures.log

pub returns-in_err-narrowed-clause-leads : goal.returns-in_err-narrowed-clause-leads
returns-in_err-narrowed-clause-leads g c =
    led_still (g.L.TreeLog.lines c.args.log.now) c.args.asker.now
