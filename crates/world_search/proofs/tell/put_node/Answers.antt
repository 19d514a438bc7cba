use Rattle.std.proofs.Common.{◌≡◌, Some, sym, subst}
use Rattle.cert_rules.specs.Trees.{is_branch}
use Rattle.cert_rules.specs.Listings.{listing_next}
use Rattle.cert_rules.specs.Writing.{TellsOf}
use Rattle.search_log.specs.Logging.{next_if}
use Rattle.world_search.proofs.Telling.{keeps_err, keeps_joins, keeps_put_if, keeps_flushed_if}
use Rattle.search_log.proofs.Logs.{log_joins}
use Rattle.world_search.proofs.tell.put_node.Goals as goal

pub returns-in_err-put_waiting-clause-keeps : goal.returns-in_err-put_waiting-clause-keeps
returns-in_err-put_waiting-clause-keeps g c = λ p m tells from.
    keeps_err (λ f. f ≡ c.in_err-put_waiting.field-0.0) c.from_residual.result p from (g.L.TreeLog.lines c.args.log.now) (g.L.TreeLog.lines c.put_waiting.new.log) c.args.asker.now c.put_waiting.new.asker
    (Some m) (listing_next p from (is_branch c.args.line.now) m) c.from_residual.ensures.1 (keeps_flushed_if c.put_waiting.result p from (g.L.TreeLog.lines c.args.log.now) (g.L.TreeLog.lines c.put_waiting.new.log) c.args.asker.now c.put_waiting.new.asker (Some m) c.put_waiting.ensures.same.state c.put_waiting.ensures.flushed)

pub returns-clause-keeps : goal.returns-clause-keeps
returns-clause-keeps g c = λ p m tells from.
    let line = c.args.line.now in
    let next = next_if c.put_one.result (listing_next p from (is_branch line) m) (Some m) in
    let tells_now : TellsOf p c.put_waiting.new.asker.solver.state m line = subst (λ state. TellsOf p state m line) (sym c.put_waiting.ensures.same.state) tells in
    keeps_joins p from (g.L.TreeLog.lines c.args.log.now) (g.L.TreeLog.lines c.put_waiting.new.log) (g.L.TreeLog.lines c.put_one.new.log) c.args.asker.now c.put_waiting.new.asker c.put_waiting.new.asker
    (Some m) (Some m) next c.in_ok-put_waiting.ensures.log.told (keeps_flushed_if c.put_waiting.result p from (g.L.TreeLog.lines c.args.log.now) (g.L.TreeLog.lines c.put_waiting.new.log) c.args.asker.now c.put_waiting.new.asker (Some m) c.put_waiting.ensures.same.state c.put_waiting.ensures.flushed)
    (keeps_put_if c.put_one.result p from (g.L.TreeLog.lines c.put_waiting.new.log) (g.L.TreeLog.lines c.put_one.new.log) c.put_waiting.new.asker m line c.in_ok-put_waiting.ensures.flushed.ok.none_waits tells_now
    c.put_one.ensures.told c.put_one.ensures.err)

pub returns-clause-log : goal.returns-clause-log
returns-clause-log g c =
    log_joins _ c.put_one.result c.args.log.now c.put_waiting.new.log c.put_one.new.log (g.met.L.TreeLog.steady_joins c.args.log.now c.put_waiting.new.log c.put_one.new.log) (g.met.L.TreeLog.quiet_joins c.args.log.now c.put_waiting.new.log c.put_one.new.log)
    c.in_ok-put_waiting.ensures.log c.put_one.ensures.log
