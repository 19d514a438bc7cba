use Rattle.std.proofs.Common.{◌≡◌, ◌∙◌, true≢false, [], ◌++◌, Ok, refl, sym, ap, subst}
use Rattle.cert_text.specs.declared.line.Subject.TheVariants.{Narrowed}
use Rattle.search_log.proofs.Logs.{log_as, log_joins, log_ok_as}
use Rattle.pick_search.specs.Blocks.Blocks.{claimed, KeepsClaims}
use Rattle.pick_search.proofs.blocks.Joins.{keeps_err, keeps_join}
use Rattle.mir_report.specs.Steps.{claim_if_refuted}
use Rattle.mir_report.proofs.Laws.{possible_by}
use Rattle.mir_report.proofs.Subjects.{shows_subject, few_sets}
use Rattle.search_log.proofs.Leading.{led_joins}
use Rattle.mir_report.proofs.possible.settle_rel.Goals as goal

pub show-requires : goal.show-requires
show-requires g c = few_sets c.args.problem.now c.in-Some.family.now c.facts.ensures.built c.in-Some.ensures.met_by

pub returns-in_err-show-clause-keeps : goal.returns-in_err-show-clause-keeps
returns-in_err-show-clause-keeps g c =
    let p = c.args.problem.now in
    keeps_err (λ f. f ≡ c.in_err-show.field-0.0) c.from_residual.result p (λ some more. more ≡ claimed (Narrowed c.args.pair c.args.rel) some) (g.L.TreeLog.lines c.args.log.now) (g.L.TreeLog.lines c.show.new.log) c.args.asker.now c.show.new.asker
    c.from_residual.ensures.1 (c.in_err-show.ensures.keeps p (shows_subject p c.args.pair c.args.rel c.in-Some.family.now c.requires.within c.in-Some.ensures))

pub returns-in_err-show-clause-log : goal.returns-in_err-show-clause-log
returns-in_err-show-clause-log g c = log_as _ c.from_residual.result c.args.log.now c.show.new.log c.from_residual.ensures.1 c.in_err-show.ensures.log

pub returns-in-Some-clause-answer : goal.returns-in-Some-clause-answer
returns-in-Some-clause-answer g c = (
  λ _. possible_by c.args.problem.now c.args.pair c.args.rel c.in-Some.family.now c.requires.within c.in-Some.ensures.met_by.met c.in-Some.ensures.there,
  λ _. refl,
)

pub returns-in-Some-clause-keeps : goal.returns-in-Some-clause-keeps
returns-in-Some-clause-keeps g c =
    let p = c.args.problem.now in
    c.in_ok-show.ensures.keeps p (shows_subject p c.args.pair c.args.rel c.in-Some.family.now c.requires.within c.in-Some.ensures)

pub returns-in-Some-clause-log : goal.returns-in-Some-clause-log
returns-in-Some-clause-log g c = log_ok_as _ _ c.args.log.now c.show.new.log c.in_ok-show.ensures.log

pub returns-in_err-refute_rel-clause-keeps : goal.returns-in_err-refute_rel-clause-keeps
returns-in_err-refute_rel-clause-keeps g c =
    keeps_err (λ f. f ≡ c.in_err-refute_rel.field-0.0) c.from_residual-in_err-refute_rel.result c.args.problem.now (λ some more. more ≡ claimed (Narrowed c.args.pair c.args.rel) some) (g.L.TreeLog.lines c.args.log.now)
    (g.L.TreeLog.lines c.refute_rel.new.log) c.args.asker.now c.refute_rel.new.asker c.from_residual-in_err-refute_rel.ensures.1 c.in_err-refute_rel.ensures.keeps

pub returns-in_err-refute_rel-clause-log : goal.returns-in_err-refute_rel-clause-log
returns-in_err-refute_rel-clause-log g c = log_as _ c.from_residual-in_err-refute_rel.result c.args.log.now c.refute_rel.new.log c.from_residual-in_err-refute_rel.ensures.1 c.in_err-refute_rel.ensures.log

pub returns-then-branch-clause-answer : goal.returns-then-branch-clause-answer
returns-then-branch-clause-answer g c = (
  λ h. absurd (true≢false (sym h)),
  λ r. absurd (c.in_ok-refute_rel.ensures.answer c.if-branch.true r),
)

pub returns-then-branch-clause-keeps : goal.returns-then-branch-clause-keeps
returns-then-branch-clause-keeps g c =
    subst (λ done. KeepsClaims c.args.problem.now (Ok done) (λ done more. more ≡ claim_if_refuted c.args.pair c.args.rel done) (g.L.TreeLog.lines c.args.log.now) (g.L.TreeLog.lines c.refute_rel.new.log) c.args.asker.now c.refute_rel.new.asker)
    c.if-branch.true c.in_ok-refute_rel.ensures.keeps

pub returns-then-branch-clause-log : goal.returns-then-branch-clause-log
returns-then-branch-clause-log g c = log_ok_as _ _ c.args.log.now c.refute_rel.new.log c.in_ok-refute_rel.ensures.log

pub returns-clause-keeps : goal.returns-clause-keeps
returns-clause-keeps g c =
    let p = c.args.problem.now in
    let old = g.L.TreeLog.lines c.args.log.now in
    let mid = g.L.TreeLog.lines c.refute_rel.new.log in
    let new = g.L.TreeLog.lines c.search_rel.new.log in
    let one = c.args.asker.now in
    let two = c.refute_rel.new.asker in
    let none = subst (λ done. KeepsClaims p (Ok done) (λ done more. more ≡ claim_if_refuted c.args.pair c.args.rel done) old mid one two) c.if-branch.false c.in_ok-refute_rel.ensures.keeps in
    keeps_join c.search_rel.result p (λ more. more ≡ []) (λ some more. more ≡ claimed (Narrowed c.args.pair c.args.rel) some) (λ some more. more ≡ claimed (Narrowed c.args.pair c.args.rel) some) old mid new one two c.search_rel.new.asker
    c.in_ok-refute_rel.ensures.log.told (λ some first second h k. ap (λ claims. claims ++ second) h ∙ k) none c.search_rel.ensures.keeps

pub returns-clause-log : goal.returns-clause-log
returns-clause-log g c =
    log_joins _ c.search_rel.result c.args.log.now c.refute_rel.new.log c.search_rel.new.log (g.met.L.TreeLog.steady_joins c.args.log.now c.refute_rel.new.log c.search_rel.new.log)
    (g.met.L.TreeLog.quiet_joins c.args.log.now c.refute_rel.new.log c.search_rel.new.log) c.in_ok-refute_rel.ensures.log c.search_rel.ensures.log

pub returns-clause-leads : goal.returns-clause-leads
returns-clause-leads g c =
    led_joins (g.L.TreeLog.lines c.args.log.now) (g.L.TreeLog.lines c.refute_rel.new.log) (g.L.TreeLog.lines c.search_rel.new.log) c.args.asker.now c.refute_rel.new.asker c.search_rel.new.asker c.in_ok-refute_rel.ensures.log.told c.refute_rel.ensures.leads
    c.search_rel.ensures.leads
