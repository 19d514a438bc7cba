use Rattle.std.proofs.Common.{◌≡◌, [], Some, None, sym, subst}
use Rattle.search_log.specs.declared.fault.StepFault.TheVariants.{NoMemory}
use Rattle.search_log.proofs.Logs.{log_memory}
use Rattle.search_log.proofs.Leading.{led_still}
use Rattle.cert_rules.specs.ClaimWriting.{open_at}
use Rattle.cert_rules.proofs.ClaimWriting.{claims_put_keep_up_law}
use Rattle.cert_text.specs.declared.line.CertLine.TheVariants.{Fails}
use Rattle.pick_search.specs.Blocks.Steps.{LineLeads}
use Rattle.pick_search.proofs.blocks.Steps.{leads_some, leads_err, leads_same}
use Rattle.pick_search.proofs.blocks.claims.begin_tree.Goals as goal

pub returns-in_err-copy_subject-clause-keeps : goal.returns-in_err-copy_subject-clause-keeps
returns-in_err-copy_subject-clause-keeps g c = λ p claims fault.
    let told = g.L.TreeLog.lines c.args.log.now in
    leads_err (λ f. f ≡ NoMemory) c.from_residual.result p told told c.args.asker.now c.args.asker.now None (open_at c.args.subject.now (Some [])) claims claims c.from_residual.ensures.1
    (leads_some p told told c.args.asker.now c.args.asker.now None None claims claims (leads_same p told c.args.asker.now None claims))

pub returns-in_err-copy_subject-clause-log : goal.returns-in_err-copy_subject-clause-log
returns-in_err-copy_subject-clause-log g c = log_memory c.from_residual.result c.args.log.now (g.met.L.TreeLog.steady_stays c.args.log.now) (g.met.L.TreeLog.quiet_stays c.args.log.now) c.from_residual.ensures.1

pub returns-clause-keeps : goal.returns-clause-keeps
returns-clause-keeps g c = λ p claims fault.
    let state = c.args.asker.now.solver.state in
    let next = open_at c.args.subject.now (Some []) in
    c.put_behind.ensures.keeps p None next claims claims
    (subst (λ subject. LineLeads p state (Fails subject) None claims next claims) (sym c.in_ok-copy_subject.ensures)
    (λ lines k. claims_put_keep_up_law.fails p lines state claims c.args.subject.now k fault))

pub returns-in_err-copy_subject-clause-leads : goal.returns-in_err-copy_subject-clause-leads
returns-in_err-copy_subject-clause-leads g c =
    led_still (g.L.TreeLog.lines c.args.log.now) c.args.asker.now
