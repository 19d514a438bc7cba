use Rattle.std.proofs.Common.{[], ◌∙◌}
use Rattle.world_search.specs.Walking.{state_of, expected}
use Rattle.world_search.proofs.Telling.{keeps_joins, keeps_before}
use Rattle.search_log.proofs.Logs.{log_joins, log_ok_as, log_as, log_then_memory}
use Rattle.world_search.proofs.Passing.{came_join}
use Rattle.world_search.proofs.steps.walk_on.Goals as goal

pub returns-in_err-step-clause-came : goal.returns-in_err-step-clause-came
returns-in_err-step-clause-came g c =
    let p = c.args.problem.now in
    let from = c.args.span.now.from in
    let to = c.args.span.now.to in
    came_join (state_of p from to c.args.walk.now) (state_of p from to c.loop-alloc.walk) (state_of p from to c.turn.new.walk)
    c.args.nodes.now.left c.loop-alloc.nodes.left c.turn.new.nodes.left [] [] c.loop-alloc.invariant.came c.turn.ensures.came

pub returns-in_err-tidy-clause-came : goal.returns-in_err-tidy-clause-came
returns-in_err-tidy-clause-came g c =
    let p = c.args.problem.now in
    let from = c.args.span.now.from in
    let to = c.args.span.now.to in
    came_join (state_of p from to c.args.walk.now) (state_of p from to c.loop-alloc.walk) (state_of p from to c.turn.new.walk)
    c.args.nodes.now.left c.loop-alloc.nodes.left c.turn.new.nodes.left [] [] c.loop-alloc.invariant.came c.turn.ensures.came

pub returns-in_err-turns-clause-came : goal.returns-in_err-turns-clause-came
returns-in_err-turns-clause-came g c =
    let p = c.args.problem.now in
    let from = c.args.span.now.from in
    let to = c.args.span.now.to in
    came_join (state_of p from to c.args.walk.now) (state_of p from to c.loop-alloc.walk) (state_of p from to c.turn.new.walk)
    c.args.nodes.now.left c.loop-alloc.nodes.left c.turn.new.nodes.left [] [] c.loop-alloc.invariant.came c.turn.ensures.came

pub returns-in-Some-clause-came : goal.returns-in-Some-clause-came
returns-in-Some-clause-came g c =
    let p = c.args.problem.now in
    let from = c.args.span.now.from in
    let to = c.args.span.now.to in
    came_join (state_of p from to c.args.walk.now) (state_of p from to c.loop-alloc.walk) (state_of p from to c.turn.new.walk)
    c.args.nodes.now.left c.loop-alloc.nodes.left c.turn.new.nodes.left [] [] c.loop-alloc.invariant.came c.turn.ensures.came

pub loop-alloc-preserved : goal.loop-alloc-preserved
loop-alloc-preserved g c =
    let p = c.args.problem.now in
    let from = c.args.span.now.from in
    let to = c.args.span.now.to in
    record {
      shape = c.tidy_by_turns.ensures.kept.shape ∙ c.turn.ensures.shape ∙ c.loop-alloc.invariant.shape;
      walk = c.turn.ensures.walk;
      begun = c.turn.ensures.begun;
      came =
          came_join (state_of p from to c.args.walk.now) (state_of p from to c.loop-alloc.walk) (state_of p from to c.turn.new.walk)
          c.args.nodes.now.left c.loop-alloc.nodes.left c.turn.new.nodes.left [] [] c.loop-alloc.invariant.came c.turn.ensures.came;
      keeps = keeps_before p from (g.L.TreeLog.lines c.args.log.now) (g.L.TreeLog.lines c.turn.new.log) c.args.asker.now c.turn.new.asker c.tidy_by_turns.new.asker (expected c.args.walk.now) (expected c.turn.new.walk)
          (keeps_joins p from (g.L.TreeLog.lines c.args.log.now) (g.L.TreeLog.lines c.loop-alloc.log) (g.L.TreeLog.lines c.turn.new.log) c.args.asker.now c.loop-alloc.asker c.turn.new.asker
          (expected c.args.walk.now) (expected c.loop-alloc.walk) (expected c.turn.new.walk) c.loop-alloc.invariant.log.told c.loop-alloc.invariant.keeps c.turn.ensures.keeps) c.tidy_by_turns.ensures.kept;
      log = log_ok_as _ (tt {0}) c.args.log.now c.turn.new.log (log_joins _ _ c.args.log.now c.loop-alloc.log c.turn.new.log (g.met.L.TreeLog.steady_joins c.args.log.now c.loop-alloc.log c.turn.new.log) (g.met.L.TreeLog.quiet_joins c.args.log.now c.loop-alloc.log c.turn.new.log) c.loop-alloc.invariant.log c.in_ok-step.ensures.log);
    }

pub returns-in_err-begin-clause-keeps : goal.returns-in_err-begin-clause-keeps
returns-in_err-begin-clause-keeps g c =
    let p = c.args.problem.now in
    let from = c.args.span.now.from in
    c.begin.ensures.keeps

pub returns-in_err-begin-clause-log : goal.returns-in_err-begin-clause-log
returns-in_err-begin-clause-log g c = log_as _ c.from_residual.result c.args.log.now c.begin.new.log c.from_residual.ensures.1 c.in_err-begin.ensures.log

pub returns-in_err-step-clause-keeps : goal.returns-in_err-step-clause-keeps
returns-in_err-step-clause-keeps g c =
    let p = c.args.problem.now in
    let from = c.args.span.now.from in
    keeps_joins p from (g.L.TreeLog.lines c.args.log.now) (g.L.TreeLog.lines c.loop-alloc.log) (g.L.TreeLog.lines c.turn.new.log) c.args.asker.now c.loop-alloc.asker c.turn.new.asker
    (expected c.args.walk.now) (expected c.loop-alloc.walk) (expected c.turn.new.walk) c.loop-alloc.invariant.log.told c.loop-alloc.invariant.keeps c.turn.ensures.keeps

pub returns-in_err-step-clause-log : goal.returns-in_err-step-clause-log
returns-in_err-step-clause-log g c = log_as _ c.from_residual-in_err-step.result c.args.log.now c.turn.new.log c.from_residual-in_err-step.ensures.1 (log_joins _ _ c.args.log.now c.loop-alloc.log c.turn.new.log (g.met.L.TreeLog.steady_joins c.args.log.now c.loop-alloc.log c.turn.new.log) (g.met.L.TreeLog.quiet_joins c.args.log.now c.loop-alloc.log c.turn.new.log) c.loop-alloc.invariant.log c.in_err-step.ensures.log)

pub returns-in_err-tidy-clause-keeps : goal.returns-in_err-tidy-clause-keeps
returns-in_err-tidy-clause-keeps g c =
    let p = c.args.problem.now in
    let from = c.args.span.now.from in
    keeps_before p from (g.L.TreeLog.lines c.args.log.now) (g.L.TreeLog.lines c.turn.new.log) c.args.asker.now c.turn.new.asker c.tidy.new.asker (expected c.args.walk.now) (expected c.turn.new.walk)
    (keeps_joins p from (g.L.TreeLog.lines c.args.log.now) (g.L.TreeLog.lines c.loop-alloc.log) (g.L.TreeLog.lines c.turn.new.log) c.args.asker.now c.loop-alloc.asker c.turn.new.asker
    (expected c.args.walk.now) (expected c.loop-alloc.walk) (expected c.turn.new.walk) c.loop-alloc.invariant.log.told c.loop-alloc.invariant.keeps c.turn.ensures.keeps) c.tidy.ensures.kept

pub returns-in_err-tidy-clause-log : goal.returns-in_err-tidy-clause-log
returns-in_err-tidy-clause-log g c = log_then_memory _ c.from_residual-in_err-tidy.result c.args.log.now c.turn.new.log c.from_residual-in_err-tidy.ensures.1 (log_joins _ _ c.args.log.now c.loop-alloc.log c.turn.new.log (g.met.L.TreeLog.steady_joins c.args.log.now c.loop-alloc.log c.turn.new.log) (g.met.L.TreeLog.quiet_joins c.args.log.now c.loop-alloc.log c.turn.new.log) c.loop-alloc.invariant.log c.in_ok-step.ensures.log)

pub returns-in-Some-clause-keeps : goal.returns-in-Some-clause-keeps
returns-in-Some-clause-keeps g c =
    let p = c.args.problem.now in
    let from = c.args.span.now.from in
    keeps_before p from (g.L.TreeLog.lines c.args.log.now) (g.L.TreeLog.lines c.turn.new.log) c.args.asker.now c.turn.new.asker c.tidy.new.asker (expected c.args.walk.now) (expected c.turn.new.walk)
    (keeps_joins p from (g.L.TreeLog.lines c.args.log.now) (g.L.TreeLog.lines c.loop-alloc.log) (g.L.TreeLog.lines c.turn.new.log) c.args.asker.now c.loop-alloc.asker c.turn.new.asker
    (expected c.args.walk.now) (expected c.loop-alloc.walk) (expected c.turn.new.walk) c.loop-alloc.invariant.log.told c.loop-alloc.invariant.keeps c.turn.ensures.keeps) c.tidy.ensures.kept

pub returns-in-Some-clause-log : goal.returns-in-Some-clause-log
returns-in-Some-clause-log g c = log_ok_as _ _ c.args.log.now c.turn.new.log (log_joins _ _ c.args.log.now c.loop-alloc.log c.turn.new.log (g.met.L.TreeLog.steady_joins c.args.log.now c.loop-alloc.log c.turn.new.log) (g.met.L.TreeLog.quiet_joins c.args.log.now c.loop-alloc.log c.turn.new.log) c.loop-alloc.invariant.log c.in_ok-step.ensures.log)

pub returns-in_err-turns-clause-keeps : goal.returns-in_err-turns-clause-keeps
returns-in_err-turns-clause-keeps g c =
    let p = c.args.problem.now in
    let from = c.args.span.now.from in
    keeps_before p from (g.L.TreeLog.lines c.args.log.now) (g.L.TreeLog.lines c.turn.new.log) c.args.asker.now c.turn.new.asker c.tidy_by_turns.new.asker (expected c.args.walk.now) (expected c.turn.new.walk)
    (keeps_joins p from (g.L.TreeLog.lines c.args.log.now) (g.L.TreeLog.lines c.loop-alloc.log) (g.L.TreeLog.lines c.turn.new.log) c.args.asker.now c.loop-alloc.asker c.turn.new.asker
    (expected c.args.walk.now) (expected c.loop-alloc.walk) (expected c.turn.new.walk) c.loop-alloc.invariant.log.told c.loop-alloc.invariant.keeps c.turn.ensures.keeps) c.tidy_by_turns.ensures.kept

pub returns-in_err-turns-clause-log : goal.returns-in_err-turns-clause-log
returns-in_err-turns-clause-log g c = log_then_memory _ c.from_residual-in_err-turns.result c.args.log.now c.turn.new.log c.from_residual-in_err-turns.ensures.1 (log_joins _ _ c.args.log.now c.loop-alloc.log c.turn.new.log (g.met.L.TreeLog.steady_joins c.args.log.now c.loop-alloc.log c.turn.new.log) (g.met.L.TreeLog.quiet_joins c.args.log.now c.loop-alloc.log c.turn.new.log) c.loop-alloc.invariant.log c.in_ok-step.ensures.log)

pub returns-in_err-tidy-2-clause-keeps : goal.returns-in_err-tidy-2-clause-keeps
returns-in_err-tidy-2-clause-keeps g c =
    let p = c.args.problem.now in
    let from = c.args.span.now.from in
    keeps_before p from (g.L.TreeLog.lines c.args.log.now) (g.L.TreeLog.lines c.loop-alloc.log) c.args.asker.now c.loop-alloc.asker c.tidy-2.new.asker (expected c.args.walk.now) (expected c.loop-alloc.walk)
    c.loop-alloc.invariant.keeps c.tidy-2.ensures.kept

pub returns-in_err-tidy-2-clause-log : goal.returns-in_err-tidy-2-clause-log
returns-in_err-tidy-2-clause-log g c = log_then_memory _ c.from_residual-in_err-tidy-2.result c.args.log.now c.loop-alloc.log c.from_residual-in_err-tidy-2.ensures.1 c.loop-alloc.invariant.log

pub returns-clause-keeps : goal.returns-clause-keeps
returns-clause-keeps g c =
    let p = c.args.problem.now in
    let from = c.args.span.now.from in
    keeps_before p from (g.L.TreeLog.lines c.args.log.now) (g.L.TreeLog.lines c.loop-alloc.log) c.args.asker.now c.loop-alloc.asker c.tidy-2.new.asker (expected c.args.walk.now) (expected c.loop-alloc.walk)
    c.loop-alloc.invariant.keeps c.tidy-2.ensures.kept

pub returns-clause-log : goal.returns-clause-log
returns-clause-log g c = log_ok_as _ _ c.args.log.now c.loop-alloc.log c.loop-alloc.invariant.log
