use Rattle.std.proofs.Common.{◌≡◌, true, ◌++◌, None}
use Rattle.cert_rules.specs.ClaimWriting.{open_at}
use Rattle.cert_rules.proofs.ClaimWriting.{claims_put_keep_up_law}
use Rattle.search_log.proofs.Logs.{log_joins}
use Rattle.search_log.proofs.Leading.{led_joins}
use Rattle.pick_search.specs.Blocks.Blocks.{claimed}
use Rattle.pick_search.proofs.blocks.Answered.{leads_from}
use Rattle.pick_search.proofs.blocks.Steps.{leads_err, leads_behind}
use Rattle.pick_search.proofs.blocks.claims.leave_tree.Goals as goal

pub returns-in_err-put_behind-clause-keeps : goal.returns-in_err-put_behind-clause-keeps
returns-in_err-put_behind-clause-keeps g c = λ p at claims shows.
    let tree = open_at c.args.subject.now at in
    leads_err (λ f. f ≡ c.in_err-put_behind.field-0.0) c.from_residual.result p (g.L.TreeLog.lines c.args.log.now) (g.L.TreeLog.lines c.put_behind.new.log) c.args.asker.now c.put_behind.new.asker
    tree None claims (claims ++ claimed c.args.subject.now true) c.from_residual.ensures.1
    (c.in_err-put_behind.ensures.keeps p tree None claims claims (λ lines k. claims_put_keep_up_law.quit p lines c.args.asker.now.solver.state claims (record { subject = c.args.subject.now; at = at }) k))

pub returns-clause-keeps : goal.returns-clause-keeps
returns-clause-keeps g c = λ p at claims shows.
    let subject = c.args.subject.now in
    let tree = open_at subject at in
    let made = claimed subject true in
    let old = g.L.TreeLog.lines c.args.log.now in
    let mid = g.L.TreeLog.lines c.put_behind.new.log in
    let new = g.L.TreeLog.lines c.show.new.log in
    let one = c.args.asker.now in
    let two = c.put_behind.new.asker in
    leads_behind c.show.result p old mid new one two c.show.new.asker tree None None claims claims (claims ++ made) c.in_ok-put_behind.ensures.log.told
    (c.in_ok-put_behind.ensures.keeps p tree None claims claims (λ lines k. claims_put_keep_up_law.quit p lines one.solver.state claims (record { subject = subject; at = at }) k))
    (leads_from c.show.result p made claims mid new two c.show.new.asker (c.show.ensures.keeps p shows))

pub returns-clause-log : goal.returns-clause-log
returns-clause-log g c =
    log_joins _ c.show.result c.args.log.now c.put_behind.new.log c.show.new.log (g.met.L.TreeLog.steady_joins c.args.log.now c.put_behind.new.log c.show.new.log) (g.met.L.TreeLog.quiet_joins c.args.log.now c.put_behind.new.log c.show.new.log)
    c.in_ok-put_behind.ensures.log c.show.ensures.log

pub returns-clause-leads : goal.returns-clause-leads
returns-clause-leads g c =
    led_joins (g.L.TreeLog.lines c.args.log.now) (g.L.TreeLog.lines c.put_behind.new.log) (g.L.TreeLog.lines c.show.new.log) c.args.asker.now c.put_behind.new.asker c.show.new.asker c.in_ok-put_behind.ensures.log.told c.put_behind.ensures.leads
    c.show.ensures.leads
