use Rattle.std.proofs.Common.{◌<◌, Some, length, sym, arith}
use Rattle.world_model.specs.Problem.{pair_count}
use Rattle.cert_rules.specs.Listings.{listing_next}
use Rattle.world_search.specs.Walking.{expected}
use Rattle.world_search.proofs.Telling.{inner_by, way_expected, keeps_goes, keeps_after, keeps_ends}
use Rattle.search_log.proofs.Logs.{log_memory, log_ok_as, log_as}
use Rattle.world_search.proofs.first.along.Goals as goal

pub tell-requires-clause-so : goal.tell-requires-clause-so
tell-requires-clause-so g c =
    let short : length c.args.walk.now.path < pair_count c.args.problem.now = omega arith in
    inner_by c.args.problem.now c.args.walk.now.path c.in_ok-alive.alive c.in_ok-alive.ensures.alive short

pub returns-in_err-alive-clause-keeps : goal.returns-in_err-alive-clause-keeps
returns-in_err-alive-clause-keeps g c =
    keeps_goes c.args.problem.now c.args.from.now (g.L.TreeLog.lines c.args.log.now) c.args.asker.now c.is_alive.new.asker (expected c.args.walk.now) c.is_alive.ensures.kept

pub returns-in_err-alive-clause-log : goal.returns-in_err-alive-clause-log
returns-in_err-alive-clause-log g c = log_memory c.from_residual.result c.args.log.now (g.met.L.TreeLog.steady_stays c.args.log.now) (g.met.L.TreeLog.quiet_stays c.args.log.now) c.from_residual.ensures.1

pub returns-in_err-tell-clause-keeps : goal.returns-in_err-tell-clause-keeps
returns-in_err-tell-clause-keeps g c =
    let p = c.args.problem.now in
    let from = c.args.from.now in
    let m = c.args.walk.now.path in
    let at = way_expected p from c.args.walk.now c.requires.way c.requires.settled in
    keeps_ends p from (g.L.TreeLog.lines c.args.log.now) (g.L.TreeLog.lines c.tell.new.log) c.args.asker.now c.tell.new.asker
    (expected c.args.walk.now) (Some m) (Some m) (expected c.args.walk.now) at at
    (keeps_after p from (g.L.TreeLog.lines c.args.log.now) (g.L.TreeLog.lines c.tell.new.log) c.args.asker.now c.is_alive.new.asker c.tell.new.asker (Some m) (Some m) c.is_alive.ensures.kept
    (c.in_err-tell.ensures.keeps from))

pub returns-in_err-tell-clause-log : goal.returns-in_err-tell-clause-log
returns-in_err-tell-clause-log g c = log_as _ c.from_residual-in_err-tell.result c.args.log.now c.tell.new.log c.from_residual-in_err-tell.ensures.1 c.in_err-tell.ensures.log

pub returns-clause-keeps : goal.returns-clause-keeps
returns-clause-keeps g c =
    let p = c.args.problem.now in
    let from = c.args.from.now in
    let m = c.args.walk.now.path in
    let next = listing_next p from c.in_ok-alive.alive m in
    keeps_ends p from (g.L.TreeLog.lines c.args.log.now) (g.L.TreeLog.lines c.tell.new.log) c.args.asker.now c.tell.new.asker
    (expected c.args.walk.now) (Some m) next (expected c.go_along.new.walk) (way_expected p from c.args.walk.now c.requires.way c.requires.settled) (sym c.go_along.ensures.next)
    (keeps_after p from (g.L.TreeLog.lines c.args.log.now) (g.L.TreeLog.lines c.tell.new.log) c.args.asker.now c.is_alive.new.asker c.tell.new.asker (Some m) next c.is_alive.ensures.kept
    (c.in_ok-tell.ensures.keeps from))

pub returns-clause-log : goal.returns-clause-log
returns-clause-log g c = log_ok_as _ _ c.args.log.now c.tell.new.log c.in_ok-tell.ensures.log
