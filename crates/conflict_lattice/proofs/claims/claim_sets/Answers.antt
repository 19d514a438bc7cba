use Rattle.std.proofs.Common.{◌≡◌, ◌+◌, ◌∙◌, true, take, Ok}
use Rattle.search_log.proofs.Leading.{led_joins}
use Rattle.search_log.proofs.Logs.{log_joins, log_ok_as}
use Rattle.cert_text.specs.declared.line.Subject.TheVariants.{Kept}
use Rattle.pick_search.specs.Blocks.Blocks.{claimed}
use Rattle.pick_search.proofs.blocks.Joins.{keeps_err}
use Rattle.conflict_min.proofs.Claims.{made_joins, told_joins}
use Rattle.conflict_lattice.specs.Lattice.{claims_of}
use Rattle.conflict_lattice.proofs.Claiming.{claims_more}
use Rattle.conflict_lattice.proofs.claims.claim_sets.Goals as goal

pub returns-in_err-claim_set-clause-keeps : goal.returns-in_err-claim_set-clause-keeps
returns-in_err-claim_set-clause-keeps g c =
    let p = c.args.problem.now in
    let a = g.L.TreeLog.lines c.args.log.now in
    let b = g.L.TreeLog.lines c.sets.log in
    let d = g.L.TreeLog.lines c.claim_set.new.log in
    keeps_err _ c.from_residual.result p _ a d c.args.asker.now c.claim_set.new.asker c.from_residual.ensures.1
    (told_joins p (λ more. more ≡ claims_of true (take c.sets.set-index c.args.sets.now)) a b d c.args.asker.now c.sets.asker c.claim_set.new.asker c.sets.invariant.log.told c.sets.invariant.made
    c.in_err-claim_set.ensures.keeps)

pub returns-in_err-claim_set-clause-leads : goal.returns-in_err-claim_set-clause-leads
returns-in_err-claim_set-clause-leads g c =
    led_joins (g.L.TreeLog.lines c.args.log.now) (g.L.TreeLog.lines c.sets.log) (g.L.TreeLog.lines c.claim_set.new.log) c.args.asker.now c.sets.asker c.claim_set.new.asker c.sets.invariant.log.told c.sets.invariant.leads
    c.claim_set.ensures.leads

pub sets-preserved : goal.sets-preserved
sets-preserved g c =
    let items = c.args.sets.now in
    let k = c.sets.set-index in
    let item = c.set-item.result in
    let old = c.args.log.now in
    let here = c.sets.log in
    let new = c.claim_set.new.log in
    record {
      shape = c.claim_set.ensures.shape ∙ c.sets.invariant.shape;
      own = c.claim_set.ensures.own ∙ c.sets.invariant.own;
      judge = c.claim_set.ensures.judge;
      made =
          made_joins c.args.problem.now (λ more. more ≡ claims_of true (take k items)) (λ more. more ≡ claimed (Kept item) true) (λ more. more ≡ claims_of true (take (k + 1) items))
          (g.L.TreeLog.lines old) (g.L.TreeLog.lines here) (g.L.TreeLog.lines new) c.args.asker.now c.sets.asker c.claim_set.new.asker c.sets.invariant.log.told
          (λ first second one two. claims_more true items k item first second c.sets-test.true c.set-item.is one two)
          c.sets.invariant.made c.in_ok-claim_set.ensures.keeps;
      leads =
          led_joins (g.L.TreeLog.lines old) (g.L.TreeLog.lines here) (g.L.TreeLog.lines new) c.args.asker.now c.sets.asker c.claim_set.new.asker c.sets.invariant.log.told c.sets.invariant.leads
          c.claim_set.ensures.leads;
      log = log_ok_as c.in_ok-claim_set.field-0 (tt {0}) old new (log_joins (tt {0}) (Ok c.in_ok-claim_set.field-0) old here new (g.met.L.TreeLog.steady_joins old here new) (g.met.L.TreeLog.quiet_joins old here new) c.sets.invariant.log c.in_ok-claim_set.ensures.log);
    }
