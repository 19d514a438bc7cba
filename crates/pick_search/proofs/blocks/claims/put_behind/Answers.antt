use Rattle.std.proofs.Common.{◌≡◌}
use Rattle.search_log.proofs.Logs.{log_joins}
use Rattle.search_log.proofs.Leading.{led_joins}
use Rattle.pick_search.proofs.blocks.Steps.{leads_some, leads_err, leads_flushed, leads_behind, leads_put_if, leads_alike}
use Rattle.pick_search.proofs.blocks.claims.put_behind.Goals as goal

pub returns-in_err-put_waiting-clause-keeps : goal.returns-in_err-put_waiting-clause-keeps
returns-in_err-put_waiting-clause-keeps g c = λ p block next claims more leads.
    let old = g.L.TreeLog.lines c.args.log.now in
    let new = g.L.TreeLog.lines c.put_waiting.new.log in
    leads_err (λ f. f ≡ c.in_err-put_waiting.field-0.0) c.from_residual.result p old new c.args.asker.now c.put_waiting.new.asker block next claims more c.from_residual.ensures.1
    (leads_some p old new c.args.asker.now c.put_waiting.new.asker block block claims claims
    (leads_flushed c.put_waiting.result p old new c.args.asker.now c.put_waiting.new.asker block claims c.put_waiting.ensures.same c.put_waiting.ensures.flushed))

pub returns-clause-keeps : goal.returns-clause-keeps
returns-clause-keeps g c = λ p block next claims more leads.
    let old = g.L.TreeLog.lines c.args.log.now in
    let mid = g.L.TreeLog.lines c.put_waiting.new.log in
    let new = g.L.TreeLog.lines c.put_one.new.log in
    let one = c.args.asker.now in
    let two = c.put_waiting.new.asker in
    let line = c.args.line.now in
    leads_behind c.put_one.result p old mid new one two two block block next claims claims more c.in_ok-put_waiting.ensures.log.told
    (leads_flushed c.put_waiting.result p old mid one two block claims c.put_waiting.ensures.same c.put_waiting.ensures.flushed)
    (leads_put_if c.put_one.result p mid new two line block next claims more c.in_ok-put_waiting.ensures.flushed.ok.none_waits c.requires.no_branch
    (leads_alike p one two line block next claims more c.put_waiting.ensures.same leads) c.put_one.ensures.told c.put_one.ensures.err)

pub returns-clause-log : goal.returns-clause-log
returns-clause-log g c =
    log_joins _ c.put_one.result c.args.log.now c.put_waiting.new.log c.put_one.new.log (g.met.L.TreeLog.steady_joins c.args.log.now c.put_waiting.new.log c.put_one.new.log) (g.met.L.TreeLog.quiet_joins c.args.log.now c.put_waiting.new.log c.put_one.new.log)
    c.in_ok-put_waiting.ensures.log c.put_one.ensures.log

pub returns-clause-leads : goal.returns-clause-leads
returns-clause-leads g c =
    led_joins (g.L.TreeLog.lines c.args.log.now) (g.L.TreeLog.lines c.put_waiting.new.log) (g.L.TreeLog.lines c.put_one.new.log) c.args.asker.now c.put_waiting.new.asker c.put_waiting.new.asker c.in_ok-put_waiting.ensures.log.told c.put_waiting.ensures.leads
    (c.put_one.ensures.leads c.put_waiting.new.asker c.requires.no_derivation)
