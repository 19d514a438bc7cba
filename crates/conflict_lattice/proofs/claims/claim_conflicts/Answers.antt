use Rattle.std.proofs.Common.{◌≡◌, ◌+◌, ◌∙◌, false, take, ap, Ok}
use Rattle.search_log.proofs.Leading.{led_joins}
use Rattle.search_log.proofs.Logs.{log_joins, log_ok_as}
use Rattle.cert_text.specs.declared.line.Subject.TheVariants.{Kept}
use Rattle.pick_search.specs.Blocks.Blocks.{claimed}
use Rattle.pick_search.proofs.blocks.Joins.{keeps_err}
use Rattle.conflict_min.proofs.Claims.{made_joins, told_joins}
use Rattle.conflict_lattice.specs.Lattice.{claims_of}
use Rattle.conflict_lattice.proofs.Claiming.{claims_more}
use Rattle.conflict_lattice.proofs.claims.claim_conflicts.Goals as goal

pub returns-in_err-refute_kept-clause-keeps : goal.returns-in_err-refute_kept-clause-keeps
returns-in_err-refute_kept-clause-keeps g c =
    let p = c.args.problem.now in
    let a = g.L.TreeLog.lines c.args.log.now in
    let b = g.L.TreeLog.lines c.conflicts.log in
    let d = g.L.TreeLog.lines c.refute_kept.new.log in
    keeps_err _ c.from_residual.result p _ a d c.args.asker.now c.refute_kept.new.asker c.from_residual.ensures.1
    (told_joins p (λ more. more ≡ claims_of false (take c.conflicts.conflict-index c.args.conflicts.now)) a b d c.args.asker.now c.conflicts.asker c.refute_kept.new.asker c.conflicts.invariant.log.told c.conflicts.invariant.made
    c.in_err-refute_kept.ensures.keeps)

pub returns-in_err-refute_kept-clause-leads : goal.returns-in_err-refute_kept-clause-leads
returns-in_err-refute_kept-clause-leads g c =
    led_joins (g.L.TreeLog.lines c.args.log.now) (g.L.TreeLog.lines c.conflicts.log) (g.L.TreeLog.lines c.refute_kept.new.log) c.args.asker.now c.conflicts.asker c.refute_kept.new.asker c.conflicts.invariant.log.told c.conflicts.invariant.leads
    c.refute_kept.ensures.leads

pub conflicts-preserved : goal.conflicts-preserved
conflicts-preserved g c =
    let items = c.args.conflicts.now in
    let k = c.conflicts.conflict-index in
    let item = c.conflict-item.result in
    let old = c.args.log.now in
    let here = c.conflicts.log in
    let new = c.refute_kept.new.log in
    record {
      shape = c.refute_kept.ensures.shape ∙ c.conflicts.invariant.shape;
      made =
          made_joins c.args.problem.now (λ more. more ≡ claims_of false (take k items)) (λ more. more ≡ claimed (Kept c.flags.result.now) false) (λ more. more ≡ claims_of false (take (k + 1) items))
          (g.L.TreeLog.lines old) (g.L.TreeLog.lines here) (g.L.TreeLog.lines new) c.args.asker.now c.conflicts.asker c.refute_kept.new.asker c.conflicts.invariant.log.told
          (λ first second one two. claims_more false items k item first second c.conflicts-test.true c.conflict-item.is one (two ∙ ap (λ flags. claimed (Kept flags) false) c.flags.ensures))
          c.conflicts.invariant.made c.in_ok-refute_kept.ensures.keeps;
      leads =
          led_joins (g.L.TreeLog.lines old) (g.L.TreeLog.lines here) (g.L.TreeLog.lines new) c.args.asker.now c.conflicts.asker c.refute_kept.new.asker c.conflicts.invariant.log.told c.conflicts.invariant.leads
          c.refute_kept.ensures.leads;
      log = log_ok_as c.in_ok-refute_kept.field-0 (tt {0}) old new (log_joins (tt {0}) (Ok c.in_ok-refute_kept.field-0) old here new (g.met.L.TreeLog.steady_joins old here new) (g.met.L.TreeLog.quiet_joins old here new) c.conflicts.invariant.log c.in_ok-refute_kept.ensures.log);
    }
