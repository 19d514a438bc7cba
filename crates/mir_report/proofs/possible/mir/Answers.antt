use Rattle.std.proofs.Common.{◌≡◌, ◌∙◌, ◌++◌, ◌∷◌, [], ℕ, length, slice_get, Some, All, Ok, refl, sym, ap, ap₂, subst, arith}
use Rattle.std.proofs.lemmas.List.{length-append}
use Rattle.std.proofs.lemmas.List.Elements.{All-nil}
use Rattle.rcc5_core.specs.declared.RelSet.{RelSet}
use Rattle.search_log.proofs.Logs.{log_as, log_joins, log_memory, log_ok_as, log_stays_ok, log_then_memory}
use Rattle.set_family.specs.Meeting.{IsMetBy}
use Rattle.pick_search.proofs.blocks.Joins.{keeps_join, keeps_nothing, keeps_untold}
use Rattle.mir_report.specs.Possible.{IsPossibleSet, pair_claims, claims_from}
use Rattle.mir_report.proofs.Laws.{cross_within}
use Rattle.mir_report.proofs.Claims.{claims_next, sets_more}
use Rattle.mir_report.proofs.Told.{err_first, err_after, err_later}
use Rattle.search_log.proofs.Leading.{led_still, led_untold, led_joins}
use Rattle.mir_report.proofs.possible.mir.Goals as goal

pub returns-in_err-bare_sets-clause-keeps : goal.returns-in_err-bare_sets-clause-keeps
returns-in_err-bare_sets-clause-keeps g c =
    keeps_untold c.from_residual.result c.args.problem.now (λ mir more. more ≡ claims_from c.args.problem.now 0 mir.sets.items) (g.L.TreeLog.lines c.args.log.now) (g.L.TreeLog.lines c.args.log.now) c.args.asker.now c.bare_sets.new.asker
    (g.met.L.TreeLog.tells_none c.args.log.now (sym c.is_dropping.ensures ∙ c.if-is_dropping.true))

pub returns-in_err-bare_sets-clause-log : goal.returns-in_err-bare_sets-clause-log
returns-in_err-bare_sets-clause-log g c =
    log_memory c.from_residual.result c.args.log.now (g.met.L.TreeLog.steady_stays c.args.log.now) (g.met.L.TreeLog.quiet_stays c.args.log.now) c.from_residual.ensures.1

pub returns-then-is_dropping-clause-keeps : goal.returns-then-is_dropping-clause-keeps
returns-then-is_dropping-clause-keeps g c =
    keeps_untold (Ok c.in_ok-bare_sets.field-0) c.args.problem.now (λ mir more. more ≡ claims_from c.args.problem.now 0 mir.sets.items) (g.L.TreeLog.lines c.args.log.now) (g.L.TreeLog.lines c.args.log.now) c.args.asker.now c.bare_sets.new.asker
    (g.met.L.TreeLog.tells_none c.args.log.now (sym c.is_dropping.ensures ∙ c.if-is_dropping.true))

pub returns-then-is_dropping-clause-log : goal.returns-then-is_dropping-clause-log
returns-then-is_dropping-clause-log g c = log_stays_ok _ c.args.log.now (g.met.L.TreeLog.steady_stays c.args.log.now) (g.met.L.TreeLog.quiet_stays c.args.log.now)

pub pairs-init : goal.pairs-init
pairs-init g c =
    let p = c.args.problem.now in
    record {
      shape = refl;
      families = subst (All (IsMetBy p)) (sym c.new-families.ensures.items) (All-nil (IsMetBy p));
      count = ap length c.new-sets.ensures.items;
      each = subst (λ sets. (k : ℕ) (one : RelSet) → slice_get sets k ≡ Some one → IsPossibleSet p k one) (sym c.new-sets.ensures.items) (λ k one e. cc);
      keeps = keeps_nothing (Ok (tt {0})) p (λ _ more. more ≡ claims_from p 0 c.new-sets.result.items) (g.L.TreeLog.lines c.args.log.now) (g.L.TreeLog.lines c.args.log.now) c.args.asker.now (ap (claims_from p 0) (sym c.new-sets.ensures.items)) refl;
      leads = led_still (g.L.TreeLog.lines c.args.log.now) c.args.asker.now;
      log = log_stays_ok _ c.args.log.now (g.met.L.TreeLog.steady_stays c.args.log.now) (g.met.L.TreeLog.quiet_stays c.args.log.now);
    }

pub settle_pair-requires-clause-within : goal.settle_pair-requires-clause-within
settle_pair-requires-clause-within g c = cross_within c.args.problem.now c.pairs.pair (omega arith)

pub returns-in_err-set-clause-keeps : goal.returns-in_err-set-clause-keeps
returns-in_err-set-clause-keeps g c =
    let p = c.args.problem.now in
    err_later (λ f. f ≡ c.in_err-set.field-0.0) c.from_residual-in_err-set.result (tt {0}) c.in_err-set.field-0.0 p (λ _ more. more ≡ claims_from p 0 c.pairs.sets.items) (λ set more. more ≡ pair_claims p c.pairs.pair set)
    (λ mir more. more ≡ claims_from p 0 mir.sets.items) (g.L.TreeLog.lines c.args.log.now) (g.L.TreeLog.lines c.pairs.log) (g.L.TreeLog.lines c.settle_pair.new.log) c.args.asker.now c.pairs.asker c.settle_pair.new.asker
    c.from_residual-in_err-set.ensures.1 c.pairs.invariant.log.told c.pairs.invariant.keeps c.in_err-set.ensures.keeps

pub returns-in_err-set-clause-log : goal.returns-in_err-set-clause-log
returns-in_err-set-clause-log g c =
    log_as _ c.from_residual-in_err-set.result c.args.log.now c.settle_pair.new.log c.from_residual-in_err-set.ensures.1
    (log_joins _ _ c.args.log.now c.pairs.log c.settle_pair.new.log (g.met.L.TreeLog.steady_joins c.args.log.now c.pairs.log c.settle_pair.new.log) (g.met.L.TreeLog.quiet_joins c.args.log.now c.pairs.log c.settle_pair.new.log)
    c.pairs.invariant.log c.in_err-set.ensures.log)

pub returns-in_err-put-clause-keeps : goal.returns-in_err-put-clause-keeps
returns-in_err-put-clause-keeps g c =
    let p = c.args.problem.now in
    err_after _ c.from_residual-in_err-put.result (tt {0}) p (λ _ more. more ≡ claims_from p 0 (c.pairs.sets.items ++ c.in_ok-set.set ∷ [])) (λ mir more. more ≡ claims_from p 0 mir.sets.items)
    (g.L.TreeLog.lines c.args.log.now) (g.L.TreeLog.lines c.settle_pair.new.log) c.args.asker.now c.settle_pair.new.asker c.from_residual-in_err-put.ensures.1
    (keeps_join (Ok (tt {0})) p (λ more. more ≡ claims_from p 0 c.pairs.sets.items) (λ _ more. more ≡ pair_claims p c.pairs.pair c.in_ok-set.set) (λ _ more. more ≡ claims_from p 0 (c.pairs.sets.items ++ c.in_ok-set.set ∷ []))
    (g.L.TreeLog.lines c.args.log.now) (g.L.TreeLog.lines c.pairs.log) (g.L.TreeLog.lines c.settle_pair.new.log) c.args.asker.now c.pairs.asker c.settle_pair.new.asker c.pairs.invariant.log.told
    (λ _ xs ys one two. ap₂ (λ xs ys. xs ++ ys) one two ∙ sym (claims_next p c.pairs.pair c.pairs.sets.items c.in_ok-set.set c.pairs.invariant.count))
    c.pairs.invariant.keeps c.in_ok-set.ensures.keeps)

pub returns-in_err-put-clause-log : goal.returns-in_err-put-clause-log
returns-in_err-put-clause-log g c =
    log_then_memory _ c.from_residual-in_err-put.result c.args.log.now c.settle_pair.new.log c.from_residual-in_err-put.ensures.1
    (log_joins _ _ c.args.log.now c.pairs.log c.settle_pair.new.log (g.met.L.TreeLog.steady_joins c.args.log.now c.pairs.log c.settle_pair.new.log) (g.met.L.TreeLog.quiet_joins c.args.log.now c.pairs.log c.settle_pair.new.log)
    c.pairs.invariant.log c.in_ok-set.ensures.log)

pub pairs-preserved : goal.pairs-preserved
pairs-preserved g c =
    let p = c.args.problem.now in
    let k = c.pairs.pair in
    let set = c.in_ok-set.set in
    let sets = c.pairs.sets.items in
    let new = c.put.new.list.items in
    let more = c.in_ok-put.ensures in
    record {
      shape = c.settle_pair.ensures.shape ∙ c.pairs.invariant.shape;
      families = c.in_ok-set.ensures.families;
      count =
          let long = ap length more in
          let all = length-append sets (set ∷ []) in
          let counted = c.pairs.invariant.count in
          omega (arith, long, all, counted);
      each = subst (λ sets. (k : ℕ) (one : RelSet) → slice_get sets k ≡ Some one → IsPossibleSet p k one) (sym more) (sets_more p k sets set c.pairs.invariant.each c.pairs.invariant.count c.in_ok-set.ensures.answer);
      keeps =
          keeps_join (Ok (tt {0})) p (λ more. more ≡ claims_from p 0 sets) (λ _ more. more ≡ pair_claims p k set) (λ _ more. more ≡ claims_from p 0 new)
          (g.L.TreeLog.lines c.args.log.now) (g.L.TreeLog.lines c.pairs.log) (g.L.TreeLog.lines c.settle_pair.new.log) c.args.asker.now c.pairs.asker c.settle_pair.new.asker c.pairs.invariant.log.told
          (λ _ xs ys one two. ap₂ (λ xs ys. xs ++ ys) one two ∙ sym (claims_next p k sets set c.pairs.invariant.count) ∙ ap (claims_from p 0) (sym more))
          c.pairs.invariant.keeps c.in_ok-set.ensures.keeps;
      leads =
          led_joins (g.L.TreeLog.lines c.args.log.now) (g.L.TreeLog.lines c.pairs.log) (g.L.TreeLog.lines c.settle_pair.new.log) c.args.asker.now c.pairs.asker c.settle_pair.new.asker c.pairs.invariant.log.told c.pairs.invariant.leads
          c.settle_pair.ensures.leads;
      log =
          log_ok_as _ _ c.args.log.now c.settle_pair.new.log
          (log_joins _ _ c.args.log.now c.pairs.log c.settle_pair.new.log (g.met.L.TreeLog.steady_joins c.args.log.now c.pairs.log c.settle_pair.new.log) (g.met.L.TreeLog.quiet_joins c.args.log.now c.pairs.log c.settle_pair.new.log)
          c.pairs.invariant.log c.in_ok-set.ensures.log);
    }

pub returns-clause-sets : goal.returns-clause-sets
returns-clause-sets g c = record {
  count = let counted = c.pairs.invariant.count in omega (arith, counted);
  each = c.pairs.invariant.each;
}

pub returns-clause-keeps : goal.returns-clause-keeps
returns-clause-keeps g c = c.pairs.invariant.keeps

pub returns-clause-log : goal.returns-clause-log
returns-clause-log g c = log_ok_as _ _ c.args.log.now c.pairs.log c.pairs.invariant.log

pub returns-in_err-hints-clause-keeps : goal.returns-in_err-hints-clause-keeps
returns-in_err-hints-clause-keeps g c =
    err_first _ c.from_residual-in_err-hints.result c.args.problem.now (λ mir more. more ≡ claims_from c.args.problem.now 0 mir.sets.items) (g.L.TreeLog.lines c.args.log.now) c.args.asker.now c.from_residual-in_err-hints.ensures.1

pub returns-in_err-bare_sets-clause-leads : goal.returns-in_err-bare_sets-clause-leads
returns-in_err-bare_sets-clause-leads g c =
    led_untold (g.L.TreeLog.lines c.args.log.now) (g.L.TreeLog.lines c.args.log.now) c.args.asker.now c.bare_sets.new.asker (g.met.L.TreeLog.tells_none c.args.log.now (sym c.is_dropping.ensures ∙ c.if-is_dropping.true))

pub returns-then-is_dropping-clause-leads : goal.returns-then-is_dropping-clause-leads
returns-then-is_dropping-clause-leads g c =
    led_untold (g.L.TreeLog.lines c.args.log.now) (g.L.TreeLog.lines c.args.log.now) c.args.asker.now c.bare_sets.new.asker (g.met.L.TreeLog.tells_none c.args.log.now (sym c.is_dropping.ensures ∙ c.if-is_dropping.true))

pub returns-in_err-set-clause-leads : goal.returns-in_err-set-clause-leads
returns-in_err-set-clause-leads g c =
    led_joins (g.L.TreeLog.lines c.args.log.now) (g.L.TreeLog.lines c.pairs.log) (g.L.TreeLog.lines c.settle_pair.new.log) c.args.asker.now c.pairs.asker c.settle_pair.new.asker c.pairs.invariant.log.told c.pairs.invariant.leads
    c.settle_pair.ensures.leads

pub returns-in_err-put-clause-leads : goal.returns-in_err-put-clause-leads
returns-in_err-put-clause-leads g c =
    led_joins (g.L.TreeLog.lines c.args.log.now) (g.L.TreeLog.lines c.pairs.log) (g.L.TreeLog.lines c.settle_pair.new.log) c.args.asker.now c.pairs.asker c.settle_pair.new.asker c.pairs.invariant.log.told c.pairs.invariant.leads
    c.settle_pair.ensures.leads

pub returns-in_err-hints-clause-leads : goal.returns-in_err-hints-clause-leads
returns-in_err-hints-clause-leads g c =
    led_still (g.L.TreeLog.lines c.args.log.now) c.args.asker.now
