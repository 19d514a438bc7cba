use Rattle.std.proofs.Common.{◌≡◌, ◌∙◌, true, false, cond, true≢false, [], Ok, refl, sym, ap}
use Rattle.rcc5_core.specs.RelationSet.{has}
use Rattle.world_model.specs.Alive.{allowed}
use Rattle.world_model.specs.Node.{pair_at}
use Rattle.cert_text.specs.declared.line.Subject.TheVariants.{Narrowed}
use Rattle.search_log.proofs.Logs.{log_stays_ok}
use Rattle.pick_search.specs.Blocks.Blocks.{claimed}
use Rattle.pick_search.proofs.blocks.Joins.{keeps_made, keeps_nothing}
use Rattle.mir_report.specs.Steps.{claim_if_allowed}
use Rattle.mir_report.proofs.Laws.{refused_is_impossible}
use Rattle.search_log.proofs.Leading.{led_still}
use Rattle.mir_report.proofs.possible.settle_if_allowed.Goals as goal

pub returns-then-not-has-clause-answer : goal.returns-then-not-has-clause-answer
returns-then-not-has-clause-answer g c =
    let p = c.args.problem.now in
    let refused : has (allowed p (pair_at p c.args.pair)) c.args.rel ≡ false = ap (λ set. has set c.args.rel) (sym c.allowed.ensures) ∙ sym c.has.ensures ∙ c.if-not-has.true in
    (λ h. absurd (true≢false (sym h)), λ r. absurd (refused_is_impossible p c.args.pair c.args.rel c.requires.within refused r))

pub returns-then-not-has-clause-keeps : goal.returns-then-not-has-clause-keeps
returns-then-not-has-clause-keeps g c =
    let p = c.args.problem.now in
    let refused : has (allowed p (pair_at p c.args.pair)) c.args.rel ≡ false = ap (λ set. has set c.args.rel) (sym c.allowed.ensures) ∙ sym c.has.ensures ∙ c.if-not-has.true in
    keeps_nothing (Ok false) p (λ some more. more ≡ claim_if_allowed p c.args.pair c.args.rel some) (g.L.TreeLog.lines c.args.log.now) (g.L.TreeLog.lines c.args.log.now) c.args.asker.now
    (sym (ap (λ b. cond b (claimed (Narrowed c.args.pair c.args.rel) false) []) refused)) refl

pub returns-then-not-has-clause-log : goal.returns-then-not-has-clause-log
returns-then-not-has-clause-log g c = log_stays_ok _ c.args.log.now (g.met.L.TreeLog.steady_stays c.args.log.now) (g.met.L.TreeLog.quiet_stays c.args.log.now)

pub returns-clause-keeps : goal.returns-clause-keeps
returns-clause-keeps g c =
    let p = c.args.problem.now in
    let here : has (allowed p (pair_at p c.args.pair)) c.args.rel ≡ true = ap (λ set. has set c.args.rel) (sym c.allowed.ensures) ∙ sym c.has.ensures ∙ c.if-not-has.false in
    keeps_made c.settle_rel.result p (λ some more. more ≡ claimed (Narrowed c.args.pair c.args.rel) some) (λ some more. more ≡ claim_if_allowed p c.args.pair c.args.rel some)
    (g.L.TreeLog.lines c.args.log.now) (g.L.TreeLog.lines c.settle_rel.new.log) c.args.asker.now c.settle_rel.new.asker
    (λ some more e. e ∙ sym (ap (λ b. cond b (claimed (Narrowed c.args.pair c.args.rel) some) []) here)) c.settle_rel.ensures.keeps

pub returns-then-not-has-clause-leads : goal.returns-then-not-has-clause-leads
returns-then-not-has-clause-leads g c =
    led_still (g.L.TreeLog.lines c.args.log.now) c.args.asker.now
