use Rattle.std.proofs.Common.{◌≤◌, Some, length, refl, ◌∙◌, ap, sym, subst, arith}
use Rattle.world_search.specs.Walking.{place, expects_by, expected, IsOnWay, Follows}
use Rattle.world_search.proofs.Guiding.{guide_further}
use Rattle.world_search.proofs.Leading.{leads_to_start, same_way, way_node, way_begins}
use Rattle.world_search.proofs.Stepping.{expected_same}
use Rattle.world_search.proofs.Telling.{keeps_same, keeps_before, keeps_joins, keeps_ends}
use Rattle.search_log.proofs.Logs.{on_err, log_stays_ok, log_memory, log_joins, log_ok_as, log_as, log_then_memory}
use Rattle.world_search.proofs.UnderWay.{knows_settled}
use Rattle.world_search.proofs.first.find.Goals as goal

pub returns-in_err-settle-clause-err : goal.returns-in_err-settle-clause-err
returns-in_err-settle-clause-err g c =
    on_err c.from_residual.result
    (same_way c.args.problem.now c.args.from.now c.args.walk.now c.settle.new.self c.requires.way c.settle.ensures.stage c.settle.ensures.place)

pub returns-in_err-settle-clause-knows : goal.returns-in_err-settle-clause-knows
returns-in_err-settle-clause-knows g c =
    knows_settled c.args.problem.now c.args.walk.now c.settle.new.self c.settle.ensures.known c.settle.ensures.longer c.requires.knows

pub returns-in_err-settle-clause-guide : goal.returns-in_err-settle-clause-guide
returns-in_err-settle-clause-guide g c =
    guide_further c.args.problem.now c.args.walk.now.path c.settle.new.self.path c.settle.ensures.longer.0 c.args.guide.now c.settle.ensures.longer.1 c.requires.guide

pub loop-alloc-init : goal.loop-alloc-init
loop-alloc-init g c =
    let p = c.args.problem.now in
    let from = c.args.from.now in
    record {
      shape = refl;
      way = same_way p from c.args.walk.now c.settle.new.self c.requires.way c.settle.ensures.stage c.settle.ensures.place;
      settled = c.in_ok-settle.ensures.none_waits;
      knows = knows_settled p c.args.walk.now c.settle.new.self c.settle.ensures.known c.settle.ensures.longer c.requires.knows;
      guided = guide_further p c.args.walk.now.path c.settle.new.self.path c.settle.ensures.longer.0 c.args.guide.now c.settle.ensures.longer.1 c.requires.guide;
      keeps = keeps_same p from (g.L.TreeLog.lines c.args.log.now) c.args.asker.now (expected c.args.walk.now) (expected c.settle.new.self)
          (expected_same c.args.walk.now c.settle.new.self c.settle.ensures.stage c.settle.ensures.place);
      log = log_stays_ok _ c.args.log.now (g.met.L.TreeLog.steady_stays c.args.log.now) (g.met.L.TreeLog.quiet_stays c.args.log.now);
    }

pub returns-in_err-settle-clause-keeps : goal.returns-in_err-settle-clause-keeps
returns-in_err-settle-clause-keeps g c =
    keeps_same c.args.problem.now c.args.from.now (g.L.TreeLog.lines c.args.log.now) c.args.asker.now (expected c.args.walk.now) (expected c.settle.new.self)
    (expected_same c.args.walk.now c.settle.new.self c.settle.ensures.stage c.settle.ensures.place)

pub returns-in_err-settle-clause-log : goal.returns-in_err-settle-clause-log
returns-in_err-settle-clause-log g c = log_memory c.from_residual.result c.args.log.now (g.met.L.TreeLog.steady_stays c.args.log.now) (g.met.L.TreeLog.quiet_stays c.args.log.now) c.from_residual.ensures.1

pub returns-in_err-turns-clause-keeps : goal.returns-in_err-turns-clause-keeps
returns-in_err-turns-clause-keeps g c =
    let p = c.args.problem.now in
    let from = c.args.from.now in
    keeps_before p from (g.L.TreeLog.lines c.args.log.now) (g.L.TreeLog.lines c.loop-alloc.log) c.args.asker.now c.loop-alloc.asker c.tidy_by_turns.new.asker (expected c.args.walk.now) (expected c.loop-alloc.walk) c.loop-alloc.invariant.keeps c.tidy_by_turns.ensures.kept

pub returns-in_err-turns-clause-log : goal.returns-in_err-turns-clause-log
returns-in_err-turns-clause-log g c =
    log_then_memory _ c.from_residual-in_err-turns.result c.args.log.now c.loop-alloc.log c.from_residual-in_err-turns.ensures.1 c.loop-alloc.invariant.log

pub returns-in_err-along-clause-err : goal.returns-in_err-along-clause-err
returns-in_err-along-clause-err g c =
    let p = c.args.problem.now in
    let from = c.args.from.now in
    on_err c.from_residual-in_err-along.result (subst (IsOnWay p from) (sym c.in_err-along.ensures.err) c.loop-alloc.invariant.way)

pub returns-in_err-along-clause-keeps : goal.returns-in_err-along-clause-keeps
returns-in_err-along-clause-keeps g c =
    let p = c.args.problem.now in
    let from = c.args.from.now in
    keeps_joins p from (g.L.TreeLog.lines c.args.log.now) (g.L.TreeLog.lines c.loop-alloc.log) (g.L.TreeLog.lines c.along.new.log) c.args.asker.now c.tidy_by_turns.new.asker c.along.new.asker (expected c.args.walk.now) (expected c.loop-alloc.walk) (expected c.along.new.walk)
    c.loop-alloc.invariant.log.told (keeps_before p from (g.L.TreeLog.lines c.args.log.now) (g.L.TreeLog.lines c.loop-alloc.log) c.args.asker.now c.loop-alloc.asker c.tidy_by_turns.new.asker (expected c.args.walk.now) (expected c.loop-alloc.walk) c.loop-alloc.invariant.keeps c.tidy_by_turns.ensures.kept) c.along.ensures.keeps

pub returns-in_err-along-clause-log : goal.returns-in_err-along-clause-log
returns-in_err-along-clause-log g c =
    log_as _ c.from_residual-in_err-along.result c.args.log.now c.along.new.log c.from_residual-in_err-along.ensures.1 (log_joins _ _ c.args.log.now c.loop-alloc.log c.along.new.log (g.met.L.TreeLog.steady_joins c.args.log.now c.loop-alloc.log c.along.new.log) (g.met.L.TreeLog.quiet_joins c.args.log.now c.loop-alloc.log c.along.new.log) c.loop-alloc.invariant.log c.in_err-along.ensures.log)

pub returns-then-not-branch-clause-ok : goal.returns-then-not-branch-clause-ok
returns-then-not-branch-clause-ok g c =
    let p = c.args.problem.now in
    let from = c.args.from.now in
    subst (Follows p from c.along.new.walk) c.if-not-branch.true c.in_ok-along.ensures.ok

pub returns-then-not-branch-clause-keeps : goal.returns-then-not-branch-clause-keeps
returns-then-not-branch-clause-keeps g c =
    let p = c.args.problem.now in
    let from = c.args.from.now in
    keeps_joins p from (g.L.TreeLog.lines c.args.log.now) (g.L.TreeLog.lines c.loop-alloc.log) (g.L.TreeLog.lines c.along.new.log) c.args.asker.now c.tidy_by_turns.new.asker c.along.new.asker (expected c.args.walk.now) (expected c.loop-alloc.walk) (expected c.along.new.walk)
    c.loop-alloc.invariant.log.told (keeps_before p from (g.L.TreeLog.lines c.args.log.now) (g.L.TreeLog.lines c.loop-alloc.log) c.args.asker.now c.loop-alloc.asker c.tidy_by_turns.new.asker (expected c.args.walk.now) (expected c.loop-alloc.walk) c.loop-alloc.invariant.keeps c.tidy_by_turns.ensures.kept) c.along.ensures.keeps

pub returns-then-not-branch-clause-log : goal.returns-then-not-branch-clause-log
returns-then-not-branch-clause-log g c =
    log_ok_as _ _ c.args.log.now c.along.new.log (log_joins _ _ c.args.log.now c.loop-alloc.log c.along.new.log (g.met.L.TreeLog.steady_joins c.args.log.now c.loop-alloc.log c.along.new.log) (g.met.L.TreeLog.quiet_joins c.args.log.now c.loop-alloc.log c.along.new.log) c.loop-alloc.invariant.log c.in_ok-along.ensures.log)

pub returns-in_err-settle-2-clause-err : goal.returns-in_err-settle-2-clause-err
returns-in_err-settle-2-clause-err g c =
    let p = c.args.problem.now in
    let from = c.args.from.now in
    let on : IsOnWay p from c.along.new.walk = subst (Follows p from c.along.new.walk) c.if-not-branch.false c.in_ok-along.ensures.ok in
    on_err c.from_residual-in_err-settle-2.result (same_way p from c.along.new.walk c.settle-in-loop-alloc.new.self on c.settle-in-loop-alloc.ensures.stage c.settle-in-loop-alloc.ensures.place)

pub returns-in_err-settle-2-clause-keeps : goal.returns-in_err-settle-2-clause-keeps
returns-in_err-settle-2-clause-keeps g c =
    let p = c.args.problem.now in
    let from = c.args.from.now in
    keeps_ends p from (g.L.TreeLog.lines c.args.log.now) (g.L.TreeLog.lines c.along.new.log) c.args.asker.now c.along.new.asker (expected c.args.walk.now) (expected c.args.walk.now) (expected c.along.new.walk) (expected c.settle-in-loop-alloc.new.self) refl
    (expected_same c.along.new.walk c.settle-in-loop-alloc.new.self c.settle-in-loop-alloc.ensures.stage c.settle-in-loop-alloc.ensures.place) (keeps_joins p from (g.L.TreeLog.lines c.args.log.now) (g.L.TreeLog.lines c.loop-alloc.log) (g.L.TreeLog.lines c.along.new.log) c.args.asker.now c.tidy_by_turns.new.asker c.along.new.asker (expected c.args.walk.now) (expected c.loop-alloc.walk) (expected c.along.new.walk)
    c.loop-alloc.invariant.log.told (keeps_before p from (g.L.TreeLog.lines c.args.log.now) (g.L.TreeLog.lines c.loop-alloc.log) c.args.asker.now c.loop-alloc.asker c.tidy_by_turns.new.asker (expected c.args.walk.now) (expected c.loop-alloc.walk) c.loop-alloc.invariant.keeps c.tidy_by_turns.ensures.kept) c.along.ensures.keeps)

pub returns-in_err-settle-2-clause-knows : goal.returns-in_err-settle-2-clause-knows
returns-in_err-settle-2-clause-knows g c =
    knows_settled c.args.problem.now c.along.new.walk c.settle-in-loop-alloc.new.self c.settle-in-loop-alloc.ensures.known c.settle-in-loop-alloc.ensures.longer c.along.ensures.knows

pub returns-in_err-settle-2-clause-guide : goal.returns-in_err-settle-2-clause-guide
returns-in_err-settle-2-clause-guide g c =
    guide_further c.args.problem.now c.along.new.walk.path c.settle-in-loop-alloc.new.self.path c.settle-in-loop-alloc.ensures.longer.0 c.along.new.guide c.settle-in-loop-alloc.ensures.longer.1 c.along.ensures.guide

pub returns-in_err-settle-2-clause-log : goal.returns-in_err-settle-2-clause-log
returns-in_err-settle-2-clause-log g c =
    log_then_memory _ c.from_residual-in_err-settle-2.result c.args.log.now c.along.new.log c.from_residual-in_err-settle-2.ensures.1 (log_joins _ _ c.args.log.now c.loop-alloc.log c.along.new.log (g.met.L.TreeLog.steady_joins c.args.log.now c.loop-alloc.log c.along.new.log) (g.met.L.TreeLog.quiet_joins c.args.log.now c.loop-alloc.log c.along.new.log) c.loop-alloc.invariant.log c.in_ok-along.ensures.log)

pub returns-clause-ok : goal.returns-clause-ok
returns-clause-ok g c =
    let p = c.args.problem.now in
    let from = c.args.from.now in
    let way = c.loop-alloc.invariant.way in
    let none = c.loop-alloc.invariant.settled in
    let long : length from ≤ length c.loop-alloc.walk.path = omega arith in
    rw none (leads_to_start p from c.loop-alloc.walk.path way.rest (way_node p from c.loop-alloc.walk way none) (way_begins p from c.loop-alloc.walk way none) long)

pub returns-clause-keeps : goal.returns-clause-keeps
returns-clause-keeps g c =
    let p = c.args.problem.now in
    let from = c.args.from.now in
    keeps_ends p from (g.L.TreeLog.lines c.args.log.now) (g.L.TreeLog.lines c.loop-alloc.log) c.args.asker.now c.loop-alloc.asker (expected c.args.walk.now) (expected c.args.walk.now) (expected c.loop-alloc.walk) (Some (place c.loop-alloc.walk)) refl
    (sym (ap (expects_by (place c.loop-alloc.walk)) c.loop-alloc.invariant.way.begun)) c.loop-alloc.invariant.keeps

pub returns-clause-log : goal.returns-clause-log
returns-clause-log g c =
    log_ok_as _ _ c.args.log.now c.loop-alloc.log c.loop-alloc.invariant.log

pub loop-alloc-preserved : goal.loop-alloc-preserved
loop-alloc-preserved g c =
    let p = c.args.problem.now in
    let from = c.args.from.now in
    let on : IsOnWay p from c.along.new.walk = subst (Follows p from c.along.new.walk) c.if-not-branch.false c.in_ok-along.ensures.ok in
    record {
      shape = c.along.ensures.shape ∙ c.tidy_by_turns.ensures.kept.shape ∙ c.loop-alloc.invariant.shape;
      way = same_way p from c.along.new.walk c.settle-in-loop-alloc.new.self on c.settle-in-loop-alloc.ensures.stage c.settle-in-loop-alloc.ensures.place;
      settled = c.in_ok-settle-2.ensures.none_waits;
      knows = knows_settled p c.along.new.walk c.settle-in-loop-alloc.new.self c.settle-in-loop-alloc.ensures.known c.settle-in-loop-alloc.ensures.longer c.along.ensures.knows;
      guided = guide_further p c.along.new.walk.path c.settle-in-loop-alloc.new.self.path c.settle-in-loop-alloc.ensures.longer.0 c.along.new.guide c.settle-in-loop-alloc.ensures.longer.1 c.along.ensures.guide;
      keeps = keeps_ends p from (g.L.TreeLog.lines c.args.log.now) (g.L.TreeLog.lines c.along.new.log) c.args.asker.now c.along.new.asker (expected c.args.walk.now) (expected c.args.walk.now) (expected c.along.new.walk) (expected c.settle-in-loop-alloc.new.self) refl
          (expected_same c.along.new.walk c.settle-in-loop-alloc.new.self c.settle-in-loop-alloc.ensures.stage c.settle-in-loop-alloc.ensures.place) (keeps_joins p from (g.L.TreeLog.lines c.args.log.now) (g.L.TreeLog.lines c.loop-alloc.log) (g.L.TreeLog.lines c.along.new.log) c.args.asker.now c.tidy_by_turns.new.asker c.along.new.asker (expected c.args.walk.now) (expected c.loop-alloc.walk) (expected c.along.new.walk)
          c.loop-alloc.invariant.log.told (keeps_before p from (g.L.TreeLog.lines c.args.log.now) (g.L.TreeLog.lines c.loop-alloc.log) c.args.asker.now c.loop-alloc.asker c.tidy_by_turns.new.asker (expected c.args.walk.now) (expected c.loop-alloc.walk) c.loop-alloc.invariant.keeps c.tidy_by_turns.ensures.kept) c.along.ensures.keeps);
      log = log_ok_as _ (tt {0}) c.args.log.now c.along.new.log (log_joins _ _ c.args.log.now c.loop-alloc.log c.along.new.log (g.met.L.TreeLog.steady_joins c.args.log.now c.loop-alloc.log c.along.new.log) (g.met.L.TreeLog.quiet_joins c.args.log.now c.loop-alloc.log c.along.new.log) c.loop-alloc.invariant.log c.in_ok-along.ensures.log);
    }
