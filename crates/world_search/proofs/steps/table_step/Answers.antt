use Rattle.std.proofs.Common.{subst}
use Rattle.world_search.specs.Stopping.{IsAtWorld, IsStop}
use Rattle.world_search.specs.Walking.{state_of}
use Rattle.world_search.proofs.Stepping.{step_world, placed_world, node_at}
use Rattle.world_search.proofs.steps.table_step.Goals as goal

pub leave-requires-clause-node : goal.leave-requires-clause-node
leave-requires-clause-node c =
    let p = c.args.problem.now in
    let from = c.args.span.now.from in
    let to = c.args.span.now.to in
    let at : IsAtWorld p to c.walk_untold.new.walk c.walk_untold.new.nodes.left c.in-World.table =
    subst (IsStop p from to c.walk_untold.new.walk c.walk_untold.new.nodes.left) c.in-World.is c.in_ok-other.ensures.stop in
    node_at p from to c.walk_untold.new.walk c.walk_untold.new.nodes.left c.in-World.table at c.walk_untold.ensures.walk.placed

pub returns-in-World-clause-step : goal.returns-in-World-clause-step
returns-in-World-clause-step c =
    let p = c.args.problem.now in
    let from = c.args.span.now.from in
    let to = c.args.span.now.to in
    let at : IsAtWorld p to c.walk_untold.new.walk c.walk_untold.new.nodes.left c.in-World.table =
    subst (IsStop p from to c.walk_untold.new.walk c.walk_untold.new.nodes.left) c.in-World.is c.in_ok-other.ensures.stop in
    step_world p from to (state_of p from to c.args.walk.now) c.walk_untold.new.walk c.leave.new.walk c.args.nodes.now.left c.walk_untold.new.nodes.left c.leave.new.nodes.left
    c.in-World.table at c.walk_untold.ensures.walk.placed c.leave.ensures.on c.leave.ensures.counted c.walk_untold.ensures.came

pub returns-in-World-clause-walk : goal.returns-in-World-clause-walk
returns-in-World-clause-walk c =
    let p = c.args.problem.now in
    let from = c.args.span.now.from in
    let to = c.args.span.now.to in
    let at : IsAtWorld p to c.walk_untold.new.walk c.walk_untold.new.nodes.left c.in-World.table =
    subst (IsStop p from to c.walk_untold.new.walk c.walk_untold.new.nodes.left) c.in-World.is c.in_ok-other.ensures.stop in
    record {
      placed = placed_world p from to c.walk_untold.new.walk c.leave.new.walk c.walk_untold.new.nodes.left c.in-World.table at c.walk_untold.ensures.walk.placed c.leave.ensures.on;
      knows = c.leave.ensures.knows;
      guide = c.leave.ensures.guide;
    }
