use Rattle.std.proofs.Common.{◌≡◌, [], sym, subst}
use Rattle.world_search.specs.Searching.{Came}
use Rattle.world_search.specs.Stopping.{IsAtWorld, IsStop}
use Rattle.world_search.specs.Walking.{state_of, expected}
use Rattle.world_search.proofs.Leading.{place_settled}
use Rattle.world_search.proofs.Stepping.{stepped_err, step_world, placed_world, expected_at, not_below_start, node_at, place_is}
use Rattle.world_search.proofs.Telling.{keeps_joins, keeps_flushed_if}
use Rattle.world_search.proofs.UnderWay.{way_same}
use Rattle.search_log.proofs.Logs.{log_joins, log_ok_as, log_as}
use Rattle.world_search.proofs.steps.family_step.Goals as goal

pub world_step-requires-clause-world : goal.world_step-requires-clause-world
world_step-requires-clause-world g c =
    let p = c.args.problem.now in
    let from = c.args.span.now.from in
    let to = c.args.span.now.to in
    let at : IsAtWorld p to c.walk_on.new.walk c.walk_on.new.nodes.left c.in-World.table =
    subst (IsStop p from to c.walk_on.new.walk c.walk_on.new.nodes.left) c.in-World.is c.in_ok-table.ensures.stop in
    at.world

pub world_step-requires-clause-is : goal.world_step-requires-clause-is
world_step-requires-clause-is g c =
    let p = c.args.problem.now in
    let from = c.args.span.now.from in
    let to = c.args.span.now.to in
    let at : IsAtWorld p to c.walk_on.new.walk c.walk_on.new.nodes.left c.in-World.table =
    subst (IsStop p from to c.walk_on.new.walk c.walk_on.new.nodes.left) c.in-World.is c.in_ok-table.ensures.stop in
    at.path_is

pub world_step-requires-clause-at : goal.world_step-requires-clause-at
world_step-requires-clause-at g c =
    let p = c.args.problem.now in
    let from = c.args.span.now.from in
    let to = c.args.span.now.to in
    let at : IsAtWorld p to c.walk_on.new.walk c.walk_on.new.nodes.left c.in-World.table =
    subst (IsStop p from to c.walk_on.new.walk c.walk_on.new.nodes.left) c.in-World.is c.in_ok-table.ensures.stop in
    expected_at c.walk_on.new.walk c.walk_on.new.walk.path at.standing (place_settled c.walk_on.new.walk at.none_waits)

pub world_step-requires-clause-node : goal.world_step-requires-clause-node
world_step-requires-clause-node g c =
    let p = c.args.problem.now in
    let from = c.args.span.now.from in
    let to = c.args.span.now.to in
    let at : IsAtWorld p to c.walk_on.new.walk c.walk_on.new.nodes.left c.in-World.table =
    subst (IsStop p from to c.walk_on.new.walk c.walk_on.new.nodes.left) c.in-World.is c.in_ok-table.ensures.stop in
    node_at p from to c.walk_on.new.walk c.walk_on.new.nodes.left c.in-World.table at c.walk_on.ensures.walk.placed

pub world_step-requires-clause-full : goal.world_step-requires-clause-full
world_step-requires-clause-full g c =
    let p = c.args.problem.now in
    let from = c.args.span.now.from in
    let to = c.args.span.now.to in
    let at : IsAtWorld p to c.walk_on.new.walk c.walk_on.new.nodes.left c.in-World.table =
    subst (IsStop p from to c.walk_on.new.walk c.walk_on.new.nodes.left) c.in-World.is c.in_ok-table.ensures.stop in
    at.full

pub world_step-requires-clause-some_left : goal.world_step-requires-clause-some_left
world_step-requires-clause-some_left g c =
    let p = c.args.problem.now in
    let from = c.args.span.now.from in
    let to = c.args.span.now.to in
    let at : IsAtWorld p to c.walk_on.new.walk c.walk_on.new.nodes.left c.in-World.table =
    subst (IsStop p from to c.walk_on.new.walk c.walk_on.new.nodes.left) c.in-World.is c.in_ok-table.ensures.stop in
    at.some_left

pub returns-in_err-family-in-World-clause-step : goal.returns-in_err-family-in-World-clause-step
returns-in_err-family-in-World-clause-step g c =
    let p = c.args.problem.now in
    let from = c.args.span.now.from in
    let to = c.args.span.now.to in
    let at : IsAtWorld p to c.walk_on.new.walk c.walk_on.new.nodes.left c.in-World.table =
    subst (IsStop p from to c.walk_on.new.walk c.walk_on.new.nodes.left) c.in-World.is c.in_ok-table.ensures.stop in
    stepped_err c.from_residual-in_err-family-in-World.result (λ f. f ≡ c.in_err-family-in-World.field-0.0) (state_of p from to c.args.walk.now) (state_of p from to c.world_step.new.walk)
    c.args.nodes.now.left c.world_step.new.nodes.left c.from_residual-in_err-family-in-World.ensures.1
    (subst (λ left. Came (state_of p from to c.args.walk.now) (state_of p from to c.world_step.new.walk) c.args.nodes.now.left left []) (sym c.in_err-family-in-World.ensures.uncounted)
    (subst (λ w. Came (state_of p from to c.args.walk.now) (state_of p from to w) c.args.nodes.now.left c.walk_on.new.nodes.left []) (sym c.in_err-family-in-World.ensures.err) c.walk_on.ensures.came))

pub returns-in_err-family-in-World-clause-walk : goal.returns-in_err-family-in-World-clause-walk
returns-in_err-family-in-World-clause-walk g c =
    way_same c.args.problem.now c.args.span.now.from c.args.span.now.to c.walk_on.new.walk c.world_step.new.walk c.walk_on.new.guide c.world_step.new.guide
    c.in_err-family-in-World.ensures.err c.walk_on.ensures.walk c.world_step.ensures.guide

pub returns-in_err-family-in-World-clause-keeps : goal.returns-in_err-family-in-World-clause-keeps
returns-in_err-family-in-World-clause-keeps g c =
    let p = c.args.problem.now in
    let from = c.args.span.now.from in
    let to = c.args.span.now.to in
    let at : IsAtWorld p to c.walk_on.new.walk c.walk_on.new.nodes.left c.in-World.table =
    subst (IsStop p from to c.walk_on.new.walk c.walk_on.new.nodes.left) c.in-World.is c.in_ok-table.ensures.stop in
    keeps_joins p from (g.L.TreeLog.lines c.args.log.now) (g.L.TreeLog.lines c.walk_on.new.log) (g.L.TreeLog.lines c.world_step.new.log) c.args.asker.now c.walk_on.new.asker c.world_step.new.asker
    (expected c.args.walk.now) (expected c.walk_on.new.walk) (expected c.world_step.new.walk) c.in_ok-table.ensures.log.told c.walk_on.ensures.keeps (c.world_step.ensures.keeps from (not_below_start p from to c.walk_on.new.walk c.walk_on.new.walk.path at.standing c.walk_on.ensures.walk.placed
    (sym (place_is p to c.walk_on.new.walk c.walk_on.new.nodes.left c.in-World.table at))))

pub returns-in_err-family-in-World-clause-log : goal.returns-in_err-family-in-World-clause-log
returns-in_err-family-in-World-clause-log g c =
    log_as _ c.from_residual-in_err-family-in-World.result c.args.log.now c.world_step.new.log c.from_residual-in_err-family-in-World.ensures.1 (log_joins _ _ c.args.log.now c.walk_on.new.log c.world_step.new.log (g.met.L.TreeLog.steady_joins c.args.log.now c.walk_on.new.log c.world_step.new.log) (g.met.L.TreeLog.quiet_joins c.args.log.now c.walk_on.new.log c.world_step.new.log) c.in_ok-table.ensures.log c.in_err-family-in-World.ensures.log)

pub returns-in_ok-family-in-World-clause-step : goal.returns-in_ok-family-in-World-clause-step
returns-in_ok-family-in-World-clause-step g c =
    let p = c.args.problem.now in
    let from = c.args.span.now.from in
    let to = c.args.span.now.to in
    let at : IsAtWorld p to c.walk_on.new.walk c.walk_on.new.nodes.left c.in-World.table =
    subst (IsStop p from to c.walk_on.new.walk c.walk_on.new.nodes.left) c.in-World.is c.in_ok-table.ensures.stop in
    let step =
    step_world p from to (state_of p from to c.args.walk.now) c.walk_on.new.walk c.world_step.new.walk c.args.nodes.now.left c.walk_on.new.nodes.left c.world_step.new.nodes.left
    c.in-World.table at c.walk_on.ensures.walk.placed c.in_ok-family-in-World.ensures.on c.in_ok-family-in-World.ensures.counted c.walk_on.ensures.came in
    (step, c.in_ok-family-in-World.ensures.met, c.in_ok-family-in-World.ensures.shown)

pub returns-in_ok-family-in-World-clause-walk : goal.returns-in_ok-family-in-World-clause-walk
returns-in_ok-family-in-World-clause-walk g c =
    let p = c.args.problem.now in
    let from = c.args.span.now.from in
    let to = c.args.span.now.to in
    let at : IsAtWorld p to c.walk_on.new.walk c.walk_on.new.nodes.left c.in-World.table =
    subst (IsStop p from to c.walk_on.new.walk c.walk_on.new.nodes.left) c.in-World.is c.in_ok-table.ensures.stop in
    record {
      placed = placed_world p from to c.walk_on.new.walk c.world_step.new.walk c.walk_on.new.nodes.left c.in-World.table at c.walk_on.ensures.walk.placed c.in_ok-family-in-World.ensures.on;
      knows = c.in_ok-family-in-World.ensures.knows;
      guide = c.world_step.ensures.guide;
    }

pub returns-in_ok-family-in-World-clause-keeps : goal.returns-in_ok-family-in-World-clause-keeps
returns-in_ok-family-in-World-clause-keeps g c =
    let p = c.args.problem.now in
    let from = c.args.span.now.from in
    let to = c.args.span.now.to in
    let at : IsAtWorld p to c.walk_on.new.walk c.walk_on.new.nodes.left c.in-World.table =
    subst (IsStop p from to c.walk_on.new.walk c.walk_on.new.nodes.left) c.in-World.is c.in_ok-table.ensures.stop in
    keeps_joins p from (g.L.TreeLog.lines c.args.log.now) (g.L.TreeLog.lines c.walk_on.new.log) (g.L.TreeLog.lines c.world_step.new.log) c.args.asker.now c.walk_on.new.asker c.world_step.new.asker
    (expected c.args.walk.now) (expected c.walk_on.new.walk) (expected c.world_step.new.walk) c.in_ok-table.ensures.log.told c.walk_on.ensures.keeps (c.world_step.ensures.keeps from (not_below_start p from to c.walk_on.new.walk c.walk_on.new.walk.path at.standing c.walk_on.ensures.walk.placed
    (sym (place_is p to c.walk_on.new.walk c.walk_on.new.nodes.left c.in-World.table at))))

pub returns-in_ok-family-in-World-clause-log : goal.returns-in_ok-family-in-World-clause-log
returns-in_ok-family-in-World-clause-log g c =
    log_ok_as _ _ c.args.log.now c.world_step.new.log (log_joins _ _ c.args.log.now c.walk_on.new.log c.world_step.new.log (g.met.L.TreeLog.steady_joins c.args.log.now c.walk_on.new.log c.world_step.new.log) (g.met.L.TreeLog.quiet_joins c.args.log.now c.walk_on.new.log c.world_step.new.log) c.in_ok-table.ensures.log c.in_ok-family-in-World.ensures.log)

pub returns-in_err-put_waiting-in-Spent-clause-keeps : goal.returns-in_err-put_waiting-in-Spent-clause-keeps
returns-in_err-put_waiting-in-Spent-clause-keeps g c =
    let p = c.args.problem.now in
    let from = c.args.span.now.from in
    keeps_joins p from (g.L.TreeLog.lines c.args.log.now) (g.L.TreeLog.lines c.walk_on.new.log) (g.L.TreeLog.lines c.put_waiting.new.log) c.args.asker.now c.walk_on.new.asker c.put_waiting.new.asker
    (expected c.args.walk.now) (expected c.walk_on.new.walk) (expected c.walk_on.new.walk) c.in_ok-table.ensures.log.told c.walk_on.ensures.keeps
    (keeps_flushed_if c.put_waiting.result p from (g.L.TreeLog.lines c.walk_on.new.log) (g.L.TreeLog.lines c.put_waiting.new.log) c.walk_on.new.asker c.put_waiting.new.asker (expected c.walk_on.new.walk) c.put_waiting.ensures.same.state c.put_waiting.ensures.flushed)

pub returns-in_ok-put_waiting-in-Spent-clause-keeps : goal.returns-in_ok-put_waiting-in-Spent-clause-keeps
returns-in_ok-put_waiting-in-Spent-clause-keeps g c =
    let p = c.args.problem.now in
    let from = c.args.span.now.from in
    keeps_joins p from (g.L.TreeLog.lines c.args.log.now) (g.L.TreeLog.lines c.walk_on.new.log) (g.L.TreeLog.lines c.put_waiting.new.log) c.args.asker.now c.walk_on.new.asker c.put_waiting.new.asker
    (expected c.args.walk.now) (expected c.walk_on.new.walk) (expected c.walk_on.new.walk) c.in_ok-table.ensures.log.told c.walk_on.ensures.keeps
    (keeps_flushed_if c.put_waiting.result p from (g.L.TreeLog.lines c.walk_on.new.log) (g.L.TreeLog.lines c.put_waiting.new.log) c.walk_on.new.asker c.put_waiting.new.asker (expected c.walk_on.new.walk) c.put_waiting.ensures.same.state c.put_waiting.ensures.flushed)

pub returns-in_err-put_waiting-in-End-clause-keeps : goal.returns-in_err-put_waiting-in-End-clause-keeps
returns-in_err-put_waiting-in-End-clause-keeps g c =
    let p = c.args.problem.now in
    let from = c.args.span.now.from in
    keeps_joins p from (g.L.TreeLog.lines c.args.log.now) (g.L.TreeLog.lines c.walk_on.new.log) (g.L.TreeLog.lines c.put_waiting-in-End.new.log) c.args.asker.now c.walk_on.new.asker c.put_waiting-in-End.new.asker
    (expected c.args.walk.now) (expected c.walk_on.new.walk) (expected c.walk_on.new.walk) c.in_ok-table.ensures.log.told c.walk_on.ensures.keeps
    (keeps_flushed_if c.put_waiting-in-End.result p from (g.L.TreeLog.lines c.walk_on.new.log) (g.L.TreeLog.lines c.put_waiting-in-End.new.log) c.walk_on.new.asker c.put_waiting-in-End.new.asker (expected c.walk_on.new.walk) c.put_waiting-in-End.ensures.same.state c.put_waiting-in-End.ensures.flushed)

pub returns-in_ok-put_waiting-in-End-clause-keeps : goal.returns-in_ok-put_waiting-in-End-clause-keeps
returns-in_ok-put_waiting-in-End-clause-keeps g c =
    let p = c.args.problem.now in
    let from = c.args.span.now.from in
    keeps_joins p from (g.L.TreeLog.lines c.args.log.now) (g.L.TreeLog.lines c.walk_on.new.log) (g.L.TreeLog.lines c.put_waiting-in-End.new.log) c.args.asker.now c.walk_on.new.asker c.put_waiting-in-End.new.asker
    (expected c.args.walk.now) (expected c.walk_on.new.walk) (expected c.walk_on.new.walk) c.in_ok-table.ensures.log.told c.walk_on.ensures.keeps
    (keeps_flushed_if c.put_waiting-in-End.result p from (g.L.TreeLog.lines c.walk_on.new.log) (g.L.TreeLog.lines c.put_waiting-in-End.new.log) c.walk_on.new.asker c.put_waiting-in-End.new.asker (expected c.walk_on.new.walk) c.put_waiting-in-End.ensures.same.state c.put_waiting-in-End.ensures.flushed)
