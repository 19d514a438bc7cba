use Rattle.std.proofs.Common.{[], true≢false, refl, sym, ap, ◌∙◌}
use Rattle.world_model.specs.Listing.{is_before_end}
use Rattle.world_search.specs.declared.walk.Walk.{Walk}
use Rattle.world_search.specs.Walking.{place, expected}
use Rattle.world_search.proofs.Guiding.{guide_further}
use Rattle.world_search.proofs.Leading.{place_settled}
use Rattle.world_search.proofs.Telling.{keeps_same, keeps_ends}
use Rattle.search_log.proofs.Logs.{log_stays_ok, log_memory, log_ok_as, log_as, log_then_memory}
use Rattle.world_search.proofs.Passing.{none_there}
use Rattle.world_search.proofs.Stepping.{came_same, stop_end, stop_spent, came_visit, placed_visit, fewer_visit, expected_same, expected_at, not_below_start}
use Rattle.world_search.proofs.UnderWay.{node_here, knows_settled, way_settled, way_same}
use Rattle.world_search.proofs.steps.turn.Goals as goal

pub returns-then-not-is_before_end-clause-stop : goal.returns-then-not-is_before_end-clause-stop
returns-then-not-is_before_end-clause-stop g c =
    stop_end c.args.problem.now c.args.span.now.from c.args.span.now.to c.args.walk.now c.settle.new.self c.args.nodes.now.left c.in_ok-node.node
    c.settle.ensures.stage c.settle.ensures.place c.requires.standing c.requires.walk.placed (c.in_ok-node.ensures ∙ c.in_ok-settle.ensures.settled)
    (ap (λ m. is_before_end m c.args.span.now.to) c.in_ok-node.ensures ∙ sym c.is_before_end.ensures ∙ c.if-not-is_before_end.true)

pub returns-then-is_spent-clause-stop : goal.returns-then-is_spent-clause-stop
returns-then-is_spent-clause-stop g c =
    stop_spent c.args.problem.now c.args.span.now.from c.args.span.now.to c.args.walk.now c.settle.new.self c.args.nodes.now.left c.in_ok-node-2.node
    c.settle.ensures.stage c.settle.ensures.place c.requires.standing c.requires.walk.placed (c.in_ok-node-2.ensures ∙ c.in_ok-settle.ensures.settled)
    (ap (λ m. is_before_end m c.args.span.now.to) c.in_ok-node-2.ensures ∙ sym c.is_before_end.ensures ∙ c.if-not-is_before_end.false) (c.is_spent.ensures.0 c.if-is_spent.true)

pub returns-in_err-settle-clause-came : goal.returns-in_err-settle-clause-came
returns-in_err-settle-clause-came g c =
    came_same c.args.problem.now c.args.span.now.from c.args.span.now.to c.args.walk.now c.settle.new.self c.args.nodes.now.left c.settle.ensures.stage c.settle.ensures.place

pub returns-in_err-node-clause-came : goal.returns-in_err-node-clause-came
returns-in_err-node-clause-came g c =
    came_same c.args.problem.now c.args.span.now.from c.args.span.now.to c.args.walk.now c.settle.new.self c.args.nodes.now.left c.settle.ensures.stage c.settle.ensures.place

pub returns-then-not-is_before_end-clause-came : goal.returns-then-not-is_before_end-clause-came
returns-then-not-is_before_end-clause-came g c =
    came_same c.args.problem.now c.args.span.now.from c.args.span.now.to c.args.walk.now c.settle.new.self c.args.nodes.now.left c.settle.ensures.stage c.settle.ensures.place

pub returns-in_err-node-2-clause-came : goal.returns-in_err-node-2-clause-came
returns-in_err-node-2-clause-came g c =
    came_same c.args.problem.now c.args.span.now.from c.args.span.now.to c.args.walk.now c.settle.new.self c.args.nodes.now.left c.settle.ensures.stage c.settle.ensures.place

pub returns-then-is_spent-clause-came : goal.returns-then-is_spent-clause-came
returns-then-is_spent-clause-came g c =
    came_same c.args.problem.now c.args.span.now.from c.args.span.now.to c.args.walk.now c.settle.new.self c.args.nodes.now.left c.settle.ensures.stage c.settle.ensures.place

pub returns-in_err-visit-clause-came : goal.returns-in_err-visit-clause-came
returns-in_err-visit-clause-came g c =
    came_same c.args.problem.now c.args.span.now.from c.args.span.now.to c.args.walk.now c.visit.new.walk c.args.nodes.now.left
    (ap (λ (w : Walk). w.stage) c.in_err-visit.ensures.err ∙ c.settle.ensures.stage) (ap place c.in_err-visit.ensures.err ∙ c.settle.ensures.place)

pub returns-in_err-table-clause-came : goal.returns-in_err-table-clause-came
returns-in_err-table-clause-came g c =
    came_same c.args.problem.now c.args.span.now.from c.args.span.now.to c.args.walk.now c.visit.new.walk c.args.nodes.now.left
    (ap (λ (w : Walk). w.stage) (c.in_ok-visit.ensures.stays c.if-branch.true) ∙ c.settle.ensures.stage) (ap place (c.in_ok-visit.ensures.stays c.if-branch.true) ∙ c.settle.ensures.place)

pub returns-then-branch-clause-came : goal.returns-then-branch-clause-came
returns-then-branch-clause-came g c =
    came_same c.args.problem.now c.args.span.now.from c.args.span.now.to c.args.walk.now c.visit.new.walk c.args.nodes.now.left
    (ap (λ (w : Walk). w.stage) (c.in_ok-visit.ensures.stays c.if-branch.true) ∙ c.settle.ensures.stage) (ap place (c.in_ok-visit.ensures.stays c.if-branch.true) ∙ c.settle.ensures.place)

pub returns-clause-came : goal.returns-clause-came
returns-clause-came g c =
    came_visit c.args.problem.now c.args.span.now.from c.args.span.now.to c.args.walk.now c.visit.new.walk c.args.nodes.now.left c.one_less-nodes.result c.settle.new.self.path []
    c.requires.standing c.requires.walk.placed c.in_ok-settle.ensures.settled (sym c.is_before_end.ensures ∙ c.if-not-is_before_end.false)
    (none_there (λ world. true≢false (sym (c.in_ok-visit.ensures.found.1 world) ∙ c.if-branch.false))) (c.in_ok-visit.ensures.on c.if-branch.false) c.one_less-nodes.ensures

pub returns-in_err-settle-clause-walk : goal.returns-in_err-settle-clause-walk
returns-in_err-settle-clause-walk g c =
    let p = c.args.problem.now in
    let from = c.args.span.now.from in
    let to = c.args.span.now.to in
    way_settled p from to c.args.walk.now c.settle.new.self c.args.guide.now c.requires.standing c.settle.ensures.stage c.settle.ensures.place c.settle.ensures.known
    c.settle.ensures.longer c.requires.walk

pub returns-in_err-node-clause-walk : goal.returns-in_err-node-clause-walk
returns-in_err-node-clause-walk g c =
    let p = c.args.problem.now in
    let from = c.args.span.now.from in
    let to = c.args.span.now.to in
    way_settled p from to c.args.walk.now c.settle.new.self c.args.guide.now c.requires.standing c.settle.ensures.stage c.settle.ensures.place c.settle.ensures.known
    c.settle.ensures.longer c.requires.walk

pub returns-then-not-is_before_end-clause-walk : goal.returns-then-not-is_before_end-clause-walk
returns-then-not-is_before_end-clause-walk g c =
    let p = c.args.problem.now in
    let from = c.args.span.now.from in
    let to = c.args.span.now.to in
    way_settled p from to c.args.walk.now c.settle.new.self c.args.guide.now c.requires.standing c.settle.ensures.stage c.settle.ensures.place c.settle.ensures.known
    c.settle.ensures.longer c.requires.walk

pub returns-in_err-node-2-clause-walk : goal.returns-in_err-node-2-clause-walk
returns-in_err-node-2-clause-walk g c =
    let p = c.args.problem.now in
    let from = c.args.span.now.from in
    let to = c.args.span.now.to in
    way_settled p from to c.args.walk.now c.settle.new.self c.args.guide.now c.requires.standing c.settle.ensures.stage c.settle.ensures.place c.settle.ensures.known
    c.settle.ensures.longer c.requires.walk

pub returns-then-is_spent-clause-walk : goal.returns-then-is_spent-clause-walk
returns-then-is_spent-clause-walk g c =
    let p = c.args.problem.now in
    let from = c.args.span.now.from in
    let to = c.args.span.now.to in
    way_settled p from to c.args.walk.now c.settle.new.self c.args.guide.now c.requires.standing c.settle.ensures.stage c.settle.ensures.place c.settle.ensures.known
    c.settle.ensures.longer c.requires.walk

pub returns-in_err-visit-clause-walk : goal.returns-in_err-visit-clause-walk
returns-in_err-visit-clause-walk g c =
    let p = c.args.problem.now in
    let from = c.args.span.now.from in
    let to = c.args.span.now.to in
    let way =
    way_settled p from to c.args.walk.now c.settle.new.self c.args.guide.now c.requires.standing c.settle.ensures.stage c.settle.ensures.place c.settle.ensures.known
    c.settle.ensures.longer c.requires.walk in
    way_same p from to c.settle.new.self c.visit.new.walk c.args.guide.now c.visit.new.guide c.in_err-visit.ensures.err way c.visit.ensures.guide

pub returns-in_err-table-clause-walk : goal.returns-in_err-table-clause-walk
returns-in_err-table-clause-walk g c =
    let p = c.args.problem.now in
    let from = c.args.span.now.from in
    let to = c.args.span.now.to in
    let way =
    way_settled p from to c.args.walk.now c.settle.new.self c.args.guide.now c.requires.standing c.settle.ensures.stage c.settle.ensures.place c.settle.ensures.known
    c.settle.ensures.longer c.requires.walk in
    way_same p from to c.settle.new.self c.visit.new.walk c.args.guide.now c.visit.new.guide (c.in_ok-visit.ensures.stays c.if-branch.true) way c.visit.ensures.guide

pub returns-then-branch-clause-walk : goal.returns-then-branch-clause-walk
returns-then-branch-clause-walk g c =
    let p = c.args.problem.now in
    let from = c.args.span.now.from in
    let to = c.args.span.now.to in
    let way =
    way_settled p from to c.args.walk.now c.settle.new.self c.args.guide.now c.requires.standing c.settle.ensures.stage c.settle.ensures.place c.settle.ensures.known
    c.settle.ensures.longer c.requires.walk in
    way_same p from to c.settle.new.self c.visit.new.walk c.args.guide.now c.visit.new.guide (c.in_ok-visit.ensures.stays c.if-branch.true) way c.visit.ensures.guide

pub returns-clause-walk : goal.returns-clause-walk
returns-clause-walk g c = record {
  placed =
      placed_visit c.args.problem.now c.args.span.now.from c.args.span.now.to c.args.walk.now c.visit.new.walk c.settle.new.self.path
      c.requires.standing c.requires.walk.placed c.in_ok-settle.ensures.settled (sym c.is_before_end.ensures ∙ c.if-not-is_before_end.false) (c.in_ok-visit.ensures.on c.if-branch.false);
  knows = c.visit.ensures.knows;
  guide = c.visit.ensures.guide;
}

pub returns-clause-fewer : goal.returns-clause-fewer
returns-clause-fewer g c =
    fewer_visit c.args.problem.now c.args.span.now.from c.args.span.now.to c.args.walk.now c.visit.new.walk c.settle.new.self.path
    c.requires.standing c.requires.walk.placed c.in_ok-settle.ensures.settled (c.in_ok-visit.ensures.on c.if-branch.false)

pub returns-in_err-settle-clause-keeps : goal.returns-in_err-settle-clause-keeps
returns-in_err-settle-clause-keeps g c =
    keeps_same c.args.problem.now c.args.span.now.from (g.L.TreeLog.lines c.args.log.now) c.args.asker.now (expected c.args.walk.now) (expected c.settle.new.self)
    (expected_same c.args.walk.now c.settle.new.self c.settle.ensures.stage c.settle.ensures.place)

pub returns-in_err-settle-clause-log : goal.returns-in_err-settle-clause-log
returns-in_err-settle-clause-log g c = log_memory c.from_residual.result c.args.log.now (g.met.L.TreeLog.steady_stays c.args.log.now) (g.met.L.TreeLog.quiet_stays c.args.log.now) c.from_residual.ensures.1

pub returns-in_err-node-clause-keeps : goal.returns-in_err-node-clause-keeps
returns-in_err-node-clause-keeps g c =
    keeps_same c.args.problem.now c.args.span.now.from (g.L.TreeLog.lines c.args.log.now) c.args.asker.now (expected c.args.walk.now) (expected c.settle.new.self)
    (expected_same c.args.walk.now c.settle.new.self c.settle.ensures.stage c.settle.ensures.place)

pub returns-in_err-node-clause-log : goal.returns-in_err-node-clause-log
returns-in_err-node-clause-log g c = log_memory c.from_residual-in_err-node.result c.args.log.now (g.met.L.TreeLog.steady_stays c.args.log.now) (g.met.L.TreeLog.quiet_stays c.args.log.now) c.from_residual-in_err-node.ensures.1

pub returns-then-not-is_before_end-clause-keeps : goal.returns-then-not-is_before_end-clause-keeps
returns-then-not-is_before_end-clause-keeps g c =
    keeps_same c.args.problem.now c.args.span.now.from (g.L.TreeLog.lines c.args.log.now) c.args.asker.now (expected c.args.walk.now) (expected c.settle.new.self)
    (expected_same c.args.walk.now c.settle.new.self c.settle.ensures.stage c.settle.ensures.place)

pub returns-then-not-is_before_end-clause-log : goal.returns-then-not-is_before_end-clause-log
returns-then-not-is_before_end-clause-log g c = log_stays_ok _ c.args.log.now (g.met.L.TreeLog.steady_stays c.args.log.now) (g.met.L.TreeLog.quiet_stays c.args.log.now)

pub returns-in_err-node-2-clause-keeps : goal.returns-in_err-node-2-clause-keeps
returns-in_err-node-2-clause-keeps g c =
    keeps_same c.args.problem.now c.args.span.now.from (g.L.TreeLog.lines c.args.log.now) c.args.asker.now (expected c.args.walk.now) (expected c.settle.new.self)
    (expected_same c.args.walk.now c.settle.new.self c.settle.ensures.stage c.settle.ensures.place)

pub returns-in_err-node-2-clause-log : goal.returns-in_err-node-2-clause-log
returns-in_err-node-2-clause-log g c = log_memory c.from_residual-in_err-node-2.result c.args.log.now (g.met.L.TreeLog.steady_stays c.args.log.now) (g.met.L.TreeLog.quiet_stays c.args.log.now) c.from_residual-in_err-node-2.ensures.1

pub returns-then-is_spent-clause-keeps : goal.returns-then-is_spent-clause-keeps
returns-then-is_spent-clause-keeps g c =
    keeps_same c.args.problem.now c.args.span.now.from (g.L.TreeLog.lines c.args.log.now) c.args.asker.now (expected c.args.walk.now) (expected c.settle.new.self)
    (expected_same c.args.walk.now c.settle.new.self c.settle.ensures.stage c.settle.ensures.place)

pub returns-then-is_spent-clause-log : goal.returns-then-is_spent-clause-log
returns-then-is_spent-clause-log g c = log_stays_ok _ c.args.log.now (g.met.L.TreeLog.steady_stays c.args.log.now) (g.met.L.TreeLog.quiet_stays c.args.log.now)

pub visit-requires-clause-at : goal.visit-requires-clause-at
visit-requires-clause-at g c =
    expected_at c.settle.new.self c.settle.new.self.path (c.settle.ensures.stage ∙ c.requires.standing) (place_settled c.settle.new.self c.in_ok-settle.ensures.none_waits)

pub visit-requires-clause-node : goal.visit-requires-clause-node
visit-requires-clause-node g c =
    node_here c.args.problem.now c.args.span.now.from c.args.span.now.to c.args.walk.now c.settle.new.self c.requires.standing c.in_ok-settle.ensures.settled c.requires.walk.placed

pub visit-requires-clause-knows : goal.visit-requires-clause-knows
visit-requires-clause-knows g c =
    knows_settled c.args.problem.now c.args.walk.now c.settle.new.self c.settle.ensures.known c.settle.ensures.longer c.requires.walk.knows

pub visit-requires-clause-guide : goal.visit-requires-clause-guide
visit-requires-clause-guide g c =
    guide_further c.args.problem.now c.args.walk.now.path c.settle.new.self.path c.settle.ensures.longer.0 c.args.guide.now c.settle.ensures.longer.1 c.requires.walk.guide

pub returns-in_err-visit-clause-keeps : goal.returns-in_err-visit-clause-keeps
returns-in_err-visit-clause-keeps g c =
    let p = c.args.problem.now in
    let from = c.args.span.now.from in
    let from_there = not_below_start p from c.args.span.now.to c.args.walk.now c.settle.new.self.path c.requires.standing c.requires.walk.placed c.in_ok-settle.ensures.settled in
    keeps_ends p from (g.L.TreeLog.lines c.args.log.now) (g.L.TreeLog.lines c.visit.new.log) c.args.asker.now c.visit.new.asker
    (expected c.args.walk.now) (expected c.settle.new.self) (expected c.visit.new.walk) (expected c.visit.new.walk)
    (sym (expected_same c.args.walk.now c.settle.new.self c.settle.ensures.stage c.settle.ensures.place)) refl (c.visit.ensures.keeps from from_there)

pub returns-in_err-visit-clause-log : goal.returns-in_err-visit-clause-log
returns-in_err-visit-clause-log g c = log_as _ c.from_residual-in_err-visit.result c.args.log.now c.visit.new.log c.from_residual-in_err-visit.ensures.1 c.in_err-visit.ensures.log

pub returns-in_err-table-clause-keeps : goal.returns-in_err-table-clause-keeps
returns-in_err-table-clause-keeps g c =
    let p = c.args.problem.now in
    let from = c.args.span.now.from in
    let from_there = not_below_start p from c.args.span.now.to c.args.walk.now c.settle.new.self.path c.requires.standing c.requires.walk.placed c.in_ok-settle.ensures.settled in
    keeps_ends p from (g.L.TreeLog.lines c.args.log.now) (g.L.TreeLog.lines c.visit.new.log) c.args.asker.now c.visit.new.asker
    (expected c.args.walk.now) (expected c.settle.new.self) (expected c.visit.new.walk) (expected c.visit.new.walk)
    (sym (expected_same c.args.walk.now c.settle.new.self c.settle.ensures.stage c.settle.ensures.place)) refl (c.visit.ensures.keeps from from_there)

pub returns-in_err-table-clause-log : goal.returns-in_err-table-clause-log
returns-in_err-table-clause-log g c = log_then_memory _ c.from_residual-in_err-table.result c.args.log.now c.visit.new.log c.from_residual-in_err-table.ensures.1 c.in_ok-visit.ensures.log

pub returns-then-branch-clause-keeps : goal.returns-then-branch-clause-keeps
returns-then-branch-clause-keeps g c =
    let p = c.args.problem.now in
    let from = c.args.span.now.from in
    let from_there = not_below_start p from c.args.span.now.to c.args.walk.now c.settle.new.self.path c.requires.standing c.requires.walk.placed c.in_ok-settle.ensures.settled in
    keeps_ends p from (g.L.TreeLog.lines c.args.log.now) (g.L.TreeLog.lines c.visit.new.log) c.args.asker.now c.visit.new.asker
    (expected c.args.walk.now) (expected c.settle.new.self) (expected c.visit.new.walk) (expected c.visit.new.walk)
    (sym (expected_same c.args.walk.now c.settle.new.self c.settle.ensures.stage c.settle.ensures.place)) refl (c.visit.ensures.keeps from from_there)

pub returns-then-branch-clause-log : goal.returns-then-branch-clause-log
returns-then-branch-clause-log g c = log_ok_as _ _ c.args.log.now c.visit.new.log c.in_ok-visit.ensures.log

pub returns-clause-keeps : goal.returns-clause-keeps
returns-clause-keeps g c =
    let p = c.args.problem.now in
    let from = c.args.span.now.from in
    let from_there = not_below_start p from c.args.span.now.to c.args.walk.now c.settle.new.self.path c.requires.standing c.requires.walk.placed c.in_ok-settle.ensures.settled in
    keeps_ends p from (g.L.TreeLog.lines c.args.log.now) (g.L.TreeLog.lines c.visit.new.log) c.args.asker.now c.visit.new.asker
    (expected c.args.walk.now) (expected c.settle.new.self) (expected c.visit.new.walk) (expected c.visit.new.walk)
    (sym (expected_same c.args.walk.now c.settle.new.self c.settle.ensures.stage c.settle.ensures.place)) refl (c.visit.ensures.keeps from from_there)

pub returns-clause-log : goal.returns-clause-log
returns-clause-log g c = log_ok_as _ _ c.args.log.now c.visit.new.log c.in_ok-visit.ensures.log
