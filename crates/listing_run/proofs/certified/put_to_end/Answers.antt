use Rattle.std.proofs.Common.{subst, sym}
use Rattle.cert_text.specs.StoreLogs.{log_lines, log_steady-joins, log_quiet-joins}
use Rattle.world_search.specs.Told.{IsToldWhole}
use Rattle.listing_run.specs.Plans.{stop_place}
use Rattle.listing_run.proofs.LoggedLemmas.{log_put, log_put_err, log_twice, log_ok_as, listed_as, listed_moves, listed_well, log_refused, partly_whole}
use Rattle.listing_run.proofs.certified.put_to_end.Goals as goal

pub returns-in_err-listed-clause-listed : goal.returns-in_err-listed-clause-listed
returns-in_err-listed-clause-listed g c =
    listed_as c.in_err-listed.field-0.0 c.from_residual.result c.args.plan.now (g.W.Sink.state c.args.out.now) (g.W.Sink.state c.put_lines.new.out) c.args.log.now c.put_lines.new.log
    c.from_residual.ensures.1 c.in_err-listed.ensures

pub returns-in_err-listed-clause-steady : goal.returns-in_err-listed-clause-steady
returns-in_err-listed-clause-steady g c = c.in_err-listed.ensures.comes

pub returns-in_err-finish-clause-listed : goal.returns-in_err-finish-clause-listed
returns-in_err-finish-clause-listed g c =
    log_refused (Unit {0}) c.in_err-finish.field-0.0 c.from_residual-in_err-finish.result c.args.plan.now (g.W.Sink.state c.args.out.now) (g.W.Sink.state c.put_lines.new.out) c.args.log.now c.finish.new.self
    c.from_residual-in_err-finish.ensures.1
    (partly_whole c.args.plan.now (g.W.Sink.state c.args.out.now).bytes (g.W.Sink.state c.put_lines.new.out).bytes c.in_ok-listed.listed.stop c.in_ok-listed.listed.count c.in_ok-listed.ensures.ok)
    c.in_ok-listed.ensures.cause.0
    (log_twice _ _ c.args.log.now c.put_lines.new.log c.finish.new.self (log_steady-joins g.S.Store.state c.args.log.now c.put_lines.new.log c.finish.new.self) (log_quiet-joins g.S.Store.state c.args.log.now c.put_lines.new.log c.finish.new.self)
    (listed_moves c.args.plan.now c.in_ok-listed.listed (g.W.Sink.state c.args.out.now) (g.W.Sink.state c.put_lines.new.out) c.args.log.now c.put_lines.new.log c.in_ok-listed.ensures)
    (log_put_err (Unit {0}) c.in_err-finish.field-0.0 c.put_lines.new.log c.finish.new.self c.in_err-finish.ensures.cause c.finish.ensures.steady c.in_err-finish.ensures.quiet))

pub returns-in_err-finish-clause-steady : goal.returns-in_err-finish-clause-steady
returns-in_err-finish-clause-steady g c = (returns-in_err-finish-clause-listed g c).comes

pub returns-clause-listed : goal.returns-clause-listed
returns-clause-listed g c =
    listed_well c.args.plan.now c.in_ok-listed.listed (g.W.Sink.state c.args.out.now) (g.W.Sink.state c.put_lines.new.out) c.args.log.now c.finish.new.self
    c.in_ok-listed.ensures.ok
    (subst (IsToldWhole c.args.plan.now.problem c.args.plan.now.start (log_lines g.S.Store.state c.args.log.now) (stop_place c.in_ok-listed.listed.stop)) (sym c.in_ok-finish.ensures.same) c.in_ok-listed.ensures.told)
    c.in_ok-listed.ensures.cause.0
    (log_ok_as _ _ c.args.log.now c.finish.new.self
    (log_twice _ _ c.args.log.now c.put_lines.new.log c.finish.new.self (log_steady-joins g.S.Store.state c.args.log.now c.put_lines.new.log c.finish.new.self) (log_quiet-joins g.S.Store.state c.args.log.now c.put_lines.new.log c.finish.new.self)
    (listed_moves c.args.plan.now c.in_ok-listed.listed (g.W.Sink.state c.args.out.now) (g.W.Sink.state c.put_lines.new.out) c.args.log.now c.put_lines.new.log c.in_ok-listed.ensures)
    (log_put {L = _} (tt {0}) c.put_lines.new.log c.finish.new.self c.in_ok-finish.ensures.cause c.finish.ensures.steady c.in_ok-finish.ensures.quiet)))

pub returns-clause-steady : goal.returns-clause-steady
returns-clause-steady g c = (returns-clause-listed g c).comes
