use Rattle.std.proofs.Common.{◌≡◌, ◌∙◌, ◌∷◌, ◌+◌, ◌++◌, [], take, get_or, Ok, true≢false, refl, sym, ap, ap₂, subst, arith}
use Rattle.std.proofs.lemmas.List.{take_more}
use Rattle.rcc5_core.specs.declared.Rel.TheVariants.{Equals}
use Rattle.rcc5_core.specs.Relation.{all_rels}
use Rattle.rcc5_core.specs.RelationSet.{has}
use Rattle.world_model.specs.Questions.{IsPossibleRelation}
use Rattle.world_model.proofs.Members.{contains_from_in}
use Rattle.world_model.proofs.PointSets.{In-all_rels}
use Rattle.point_query.proofs.Choosing.{HasThose, one_in, one_out, has_none}
use Rattle.search_log.proofs.Logs.{log_as, log_joins, log_ok_as, log_stays_ok}
use Rattle.pick_search.specs.Blocks.Blocks.{KeepsClaims}
use Rattle.pick_search.proofs.blocks.Joins.{keeps_join, keeps_nothing}
use Rattle.mir_report.specs.Possible.{pair_claims}
use Rattle.mir_report.specs.Steps.{claims_of, claim_if_allowed}
use Rattle.mir_report.proofs.Claims.{claims_step}
use Rattle.mir_report.proofs.Told.{err_later}
use Rattle.search_log.proofs.Leading.{led_still, led_joins}
use Rattle.mir_report.proofs.possible.settle_pair.Goals as goal
use Rattle.mir_report.proofs.possible.settle_pair.Goals.{then-branch, else-branch}

pub rels-init : goal.rels-init
rels-init g c = record {
  shape = refl;
  families = c.requires.families;
  each = λ q. (λ h. absurd (true≢false (sym h ∙ ap (λ set. has set q) c.none-set.ensures ∙ has_none q)), λ h. absurd (omega (arith, h.0.1)));
  keeps = keeps_nothing (Ok c.none-set.result) c.args.problem.now (λ set more. more ≡ claims_of c.args.problem.now c.args.pair set []) (g.L.TreeLog.lines c.args.log.now) (g.L.TreeLog.lines c.args.log.now) c.args.asker.now refl refl;
  leads = led_still (g.L.TreeLog.lines c.args.log.now) c.args.asker.now;
  log = log_stays_ok _ c.args.log.now (g.met.L.TreeLog.steady_stays c.args.log.now) (g.met.L.TreeLog.quiet_stays c.args.log.now);
}

pub returns-in_err-settle_if_allowed-clause-keeps : goal.returns-in_err-settle_if_allowed-clause-keeps
returns-in_err-settle_if_allowed-clause-keeps g c =
    let p = c.args.problem.now in
    let pair = c.args.pair in
    let rel = get_or all_rels c.rels.rel-index Equals in
    err_later (λ f. f ≡ c.in_err-settle_if_allowed.field-0.0) c.from_residual.result c.rels.set c.in_err-settle_if_allowed.field-0.0 p (λ set more. more ≡ claims_of p pair set (take c.rels.rel-index all_rels))
    (λ some more. more ≡ claim_if_allowed p pair rel some) (λ set more. more ≡ pair_claims p pair set) (g.L.TreeLog.lines c.args.log.now) (g.L.TreeLog.lines c.rels.log) (g.L.TreeLog.lines c.settle_if_allowed.new.log)
    c.args.asker.now c.rels.asker c.settle_if_allowed.new.asker c.from_residual.ensures.1 c.rels.invariant.log.told c.rels.invariant.keeps c.in_err-settle_if_allowed.ensures.keeps

pub returns-in_err-settle_if_allowed-clause-log : goal.returns-in_err-settle_if_allowed-clause-log
returns-in_err-settle_if_allowed-clause-log g c =
    log_as _ c.from_residual.result c.args.log.now c.settle_if_allowed.new.log c.from_residual.ensures.1
    (log_joins _ _ c.args.log.now c.rels.log c.settle_if_allowed.new.log (g.met.L.TreeLog.steady_joins c.args.log.now c.rels.log c.settle_if_allowed.new.log) (g.met.L.TreeLog.quiet_joins c.args.log.now c.rels.log c.settle_if_allowed.new.log)
    c.rels.invariant.log c.in_err-settle_if_allowed.ensures.log)

pub rels-preserved : goal.rels-preserved
rels-preserved g c =
    let p = c.args.problem.now in
    let pair = c.args.pair in
    let i = c.rels.rel-index in
    let rel = get_or all_rels i Equals in
    let more = take_more all_rels i Equals c.rels-test.true in
    let said = c.in_ok-settle_if_allowed.ensures in
    let some = c.in_ok-settle_if_allowed.field-0 in
    let each : HasThose (IsPossibleRelation p pair) (take i all_rels ++ rel ∷ []) c.if-branch.set = elim c.if-branch.branch [
      | then-branch w ↦ rw (w.set-is, w.with-set.ensures) (one_in (IsPossibleRelation p pair) (take i all_rels) rel c.rels.set c.rels.invariant.each (said.answer.0 w.if-branch.true))
      | else-branch w ↦ rw w.set-is (one_out (IsPossibleRelation p pair) (take i all_rels) rel c.rels.set c.rels.invariant.each (λ r. true≢false (sym (said.answer.1 r) ∙ w.if-branch.false)))
    ] in
    record {
      shape = c.settle_if_allowed.ensures.shape ∙ c.rels.invariant.shape;
      families = said.families;
      each = subst (λ rels. HasThose (IsPossibleRelation p pair) rels c.if-branch.set) (sym more) each;
      keeps =
          keeps_join (Ok c.if-branch.set) p (λ made. made ≡ claims_of p pair c.rels.set (take i all_rels)) (λ _ made. made ≡ claim_if_allowed p pair rel some) (λ _ made. made ≡ claims_of p pair c.if-branch.set (take (i + 1) all_rels))
          (g.L.TreeLog.lines c.args.log.now) (g.L.TreeLog.lines c.rels.log) (g.L.TreeLog.lines c.settle_if_allowed.new.log) c.args.asker.now c.rels.asker c.settle_if_allowed.new.asker c.rels.invariant.log.told
          (λ _ xs ys one two. ap₂ (λ xs ys. xs ++ ys) one two ∙ sym (claims_step p pair c.rels.set c.if-branch.set (take i all_rels) rel some c.rels.invariant.each each said.answer) ∙ ap (claims_of p pair c.if-branch.set) (sym more))
          c.rels.invariant.keeps said.keeps;
      leads =
          led_joins (g.L.TreeLog.lines c.args.log.now) (g.L.TreeLog.lines c.rels.log) (g.L.TreeLog.lines c.settle_if_allowed.new.log) c.args.asker.now c.rels.asker c.settle_if_allowed.new.asker c.rels.invariant.log.told c.rels.invariant.leads
          c.settle_if_allowed.ensures.leads;
      log =
          log_ok_as _ _ c.args.log.now c.settle_if_allowed.new.log
          (log_joins _ _ c.args.log.now c.rels.log c.settle_if_allowed.new.log (g.met.L.TreeLog.steady_joins c.args.log.now c.rels.log c.settle_if_allowed.new.log) (g.met.L.TreeLog.quiet_joins c.args.log.now c.rels.log c.settle_if_allowed.new.log)
          c.rels.invariant.log said.log);
    }

pub returns-clause-answer : goal.returns-clause-answer
returns-clause-answer g c = λ rel.
    let p = c.args.problem.now in
    let pair = c.args.pair in
    let all : c.rels.rel-index ≡ 5 = omega arith in
    let each = subst (λ i. HasThose (IsPossibleRelation p pair) (take i all_rels) c.rels.set) all c.rels.invariant.each in
    (λ h. ((each rel).0 h).1, λ r. (each rel).1 (contains_from_in (In-all_rels rel), r))

pub returns-clause-keeps : goal.returns-clause-keeps
returns-clause-keeps g c =
    let p = c.args.problem.now in
    let pair = c.args.pair in
    let all : c.rels.rel-index ≡ 5 = omega arith in
    subst (λ i. KeepsClaims p (Ok c.rels.set) (λ set more. more ≡ claims_of p pair set (take i all_rels)) (g.L.TreeLog.lines c.args.log.now) (g.L.TreeLog.lines c.rels.log) c.args.asker.now c.rels.asker) all c.rels.invariant.keeps

pub returns-clause-log : goal.returns-clause-log
returns-clause-log g c = log_ok_as _ _ c.args.log.now c.rels.log c.rels.invariant.log

pub returns-in_err-settle_if_allowed-clause-leads : goal.returns-in_err-settle_if_allowed-clause-leads
returns-in_err-settle_if_allowed-clause-leads g c =
    led_joins (g.L.TreeLog.lines c.args.log.now) (g.L.TreeLog.lines c.rels.log) (g.L.TreeLog.lines c.settle_if_allowed.new.log) c.args.asker.now c.rels.asker c.settle_if_allowed.new.asker c.rels.invariant.log.told c.rels.invariant.leads
    c.settle_if_allowed.ensures.leads
