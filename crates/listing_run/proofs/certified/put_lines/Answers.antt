use Rattle.std.proofs.Common.{refl, subst}
use Rattle.cert_text.specs.Logs.{IsToldWith}
use Rattle.listing_run.specs.Plans.{stop_place}
use Rattle.listing_run.proofs.ListingLemmas.{partly_nothing}
use Rattle.world_search.proofs.Told.{told_whole}
use Rattle.listing_run.proofs.LoggedLemmas.{log_rests, log_put, log_put_err, log_twice, log_ok_as, listed_moves, listed_well, log_refused, refused_behind, starved, partly_whole, ids_of_first, ids_of_last}
use Rattle.listing_run.proofs.certified.put_lines.Goals as goal

pub put_line-requires : goal.put_line-requires
put_line-requires g c = ids_of_first c.in_ok-first.first c.args.plan.now.problem c.args.plan.now.start c.in_ok-first.ensures

pub put_line-requires-2 : goal.put_line-requires-2
put_line-requires-2 g c = ids_of_last c.in_ok-last.last (stop_place c.in_ok-listed.listed.stop) c.in_ok-last.ensures

pub returns-in_err-first : goal.returns-in_err-first
returns-in_err-first g c =
    starved _ (tt {0}) c.from_residual.result c.args.plan.now (g.W.Sink.state c.args.out.now) (g.W.Sink.state c.args.out.now) c.args.log.now c.args.log.now
    c.from_residual.ensures.1 (partly_nothing c.args.plan.now c.facts.ensures.built.valid (g.W.Sink.state c.args.out.now).bytes) refl
    (log_rests (tt {0}) c.args.log.now (g.met.L.TreeLog.steady_stays c.args.log.now) (g.met.L.TreeLog.quiet_stays c.args.log.now))

pub returns-in_err-put_line : goal.returns-in_err-put_line
returns-in_err-put_line g c =
    log_refused (Unit {0}) c.in_err-put_line.field-0.0 c.from_residual-in_err-put_line.result c.args.plan.now (g.W.Sink.state c.args.out.now) (g.W.Sink.state c.args.out.now) c.args.log.now c.put_line.new.self
    c.from_residual-in_err-put_line.ensures.1 (partly_nothing c.args.plan.now c.facts.ensures.built.valid (g.W.Sink.state c.args.out.now).bytes) refl
    (log_put_err (Unit {0}) c.in_err-put_line.field-0.0 c.args.log.now c.put_line.new.self c.in_err-put_line.ensures.cause c.put_line.ensures.steady c.in_err-put_line.ensures.quiet)

pub returns-in_err-listed : goal.returns-in_err-listed
returns-in_err-listed g c =
    refused_behind _ (tt {0}) _ _ c.from_residual-in_err-listed.result c.args.plan.now (g.W.Sink.state c.args.out.now) (g.W.Sink.state c.put_logged_worlds.new.out) c.args.log.now c.put_line.new.self c.put_logged_worlds.new.log
    c.from_residual-in_err-listed.ensures.1
    (g.met.L.TreeLog.steady_joins c.args.log.now c.put_line.new.self c.put_logged_worlds.new.log) (g.met.L.TreeLog.quiet_joins c.args.log.now c.put_line.new.self c.put_logged_worlds.new.log)
    (log_put (tt {0}) c.args.log.now c.put_line.new.self c.in_ok-put_line.ensures.cause c.put_line.ensures.steady c.in_ok-put_line.ensures.quiet)
    c.in_err-listed.ensures

pub returns-in_err-last : goal.returns-in_err-last
returns-in_err-last g c =
    starved _ c.in_ok-listed.listed c.from_residual-in_err-last.result c.args.plan.now (g.W.Sink.state c.args.out.now) (g.W.Sink.state c.put_logged_worlds.new.out) c.args.log.now c.put_logged_worlds.new.log
    c.from_residual-in_err-last.ensures.1
    (partly_whole c.args.plan.now (g.W.Sink.state c.args.out.now).bytes (g.W.Sink.state c.put_logged_worlds.new.out).bytes c.in_ok-listed.listed.stop c.in_ok-listed.listed.count c.in_ok-listed.ensures.ok)
    c.in_ok-listed.ensures.cause.0
    (log_twice _ _ c.args.log.now c.put_line.new.self c.put_logged_worlds.new.log (g.met.L.TreeLog.steady_joins c.args.log.now c.put_line.new.self c.put_logged_worlds.new.log) (g.met.L.TreeLog.quiet_joins c.args.log.now c.put_line.new.self c.put_logged_worlds.new.log)
    (log_put (tt {0}) c.args.log.now c.put_line.new.self c.in_ok-put_line.ensures.cause c.put_line.ensures.steady c.in_ok-put_line.ensures.quiet)
    (listed_moves c.args.plan.now c.in_ok-listed.listed (g.W.Sink.state c.args.out.now) (g.W.Sink.state c.put_logged_worlds.new.out) c.put_line.new.self c.put_logged_worlds.new.log c.in_ok-listed.ensures))

pub returns-in_err-put_line-2 : goal.returns-in_err-put_line-2
returns-in_err-put_line-2 g c =
    log_refused (Unit {0}) c.in_err-put_line-2.field-0.0 c.from_residual-in_err-put_line-2.result c.args.plan.now (g.W.Sink.state c.args.out.now) (g.W.Sink.state c.put_logged_worlds.new.out) c.args.log.now c.put_line-2.new.self
    c.from_residual-in_err-put_line-2.ensures.1
    (partly_whole c.args.plan.now (g.W.Sink.state c.args.out.now).bytes (g.W.Sink.state c.put_logged_worlds.new.out).bytes c.in_ok-listed.listed.stop c.in_ok-listed.listed.count c.in_ok-listed.ensures.ok)
    c.in_ok-listed.ensures.cause.0
    (log_twice _ _ c.args.log.now c.put_logged_worlds.new.log c.put_line-2.new.self (g.met.L.TreeLog.steady_joins c.args.log.now c.put_logged_worlds.new.log c.put_line-2.new.self) (g.met.L.TreeLog.quiet_joins c.args.log.now c.put_logged_worlds.new.log c.put_line-2.new.self)
    (log_twice _ _ c.args.log.now c.put_line.new.self c.put_logged_worlds.new.log (g.met.L.TreeLog.steady_joins c.args.log.now c.put_line.new.self c.put_logged_worlds.new.log) (g.met.L.TreeLog.quiet_joins c.args.log.now c.put_line.new.self c.put_logged_worlds.new.log)
    (log_put (tt {0}) c.args.log.now c.put_line.new.self c.in_ok-put_line.ensures.cause c.put_line.ensures.steady c.in_ok-put_line.ensures.quiet)
    (listed_moves c.args.plan.now c.in_ok-listed.listed (g.W.Sink.state c.args.out.now) (g.W.Sink.state c.put_logged_worlds.new.out) c.put_line.new.self c.put_logged_worlds.new.log c.in_ok-listed.ensures))
    (log_put_err (Unit {0}) c.in_err-put_line-2.field-0.0 c.put_logged_worlds.new.log c.put_line-2.new.self c.in_err-put_line-2.ensures.cause c.put_line-2.ensures.steady c.in_err-put_line-2.ensures.quiet))

pub returns : goal.returns
returns g c =
    listed_well c.args.plan.now c.in_ok-listed.listed (g.W.Sink.state c.args.out.now) (g.W.Sink.state c.put_logged_worlds.new.out) c.args.log.now c.put_line-2.new.self
    c.in_ok-listed.ensures.ok
    (told_whole c.args.plan.now.problem c.args.plan.now.start (stop_place c.in_ok-listed.listed.stop) (g.L.TreeLog.lines c.args.log.now) (g.L.TreeLog.lines c.put_line.new.self) (g.L.TreeLog.lines c.put_logged_worlds.new.log) (g.L.TreeLog.lines c.put_line-2.new.self)
    (subst (λ line. IsToldWith (g.L.TreeLog.lines c.args.log.now) line (g.L.TreeLog.lines c.put_line.new.self)) c.in_ok-first.ensures c.in_ok-put_line.ensures.ok)
    c.in_ok-listed.ensures.told
    (subst (λ line. IsToldWith (g.L.TreeLog.lines c.put_logged_worlds.new.log) line (g.L.TreeLog.lines c.put_line-2.new.self)) c.in_ok-last.ensures c.in_ok-put_line-2.ensures.ok))
    c.in_ok-listed.ensures.cause.0
    (log_ok_as _ _ c.args.log.now c.put_line-2.new.self
    (log_twice _ _ c.args.log.now c.put_logged_worlds.new.log c.put_line-2.new.self (g.met.L.TreeLog.steady_joins c.args.log.now c.put_logged_worlds.new.log c.put_line-2.new.self) (g.met.L.TreeLog.quiet_joins c.args.log.now c.put_logged_worlds.new.log c.put_line-2.new.self)
    (log_twice _ _ c.args.log.now c.put_line.new.self c.put_logged_worlds.new.log (g.met.L.TreeLog.steady_joins c.args.log.now c.put_line.new.self c.put_logged_worlds.new.log) (g.met.L.TreeLog.quiet_joins c.args.log.now c.put_line.new.self c.put_logged_worlds.new.log)
    (log_put (tt {0}) c.args.log.now c.put_line.new.self c.in_ok-put_line.ensures.cause c.put_line.ensures.steady c.in_ok-put_line.ensures.quiet)
    (listed_moves c.args.plan.now c.in_ok-listed.listed (g.W.Sink.state c.args.out.now) (g.W.Sink.state c.put_logged_worlds.new.out) c.put_line.new.self c.put_logged_worlds.new.log c.in_ok-listed.ensures))
    (log_put (tt {0}) c.put_logged_worlds.new.log c.put_line-2.new.self c.in_ok-put_line-2.ensures.cause c.put_line-2.ensures.steady c.in_ok-put_line-2.ensures.quiet)))
