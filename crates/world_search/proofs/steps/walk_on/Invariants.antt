use Rattle.std.proofs.Common.{◌≡◌, ◌≢◌, [], Ok}
use Rattle.world_search.specs.Searching.{Came}
use Rattle.world_search.specs.Guiding.{IsUnderWay}
use Rattle.world_search.specs.Walking.{state_of, nodes_left, expected}
use Rattle.world_search.specs.Logging.{KeepsOn}
use Rattle.search_log.specs.Logging.{LogGoes}
use Rattle.world_search.specs.declared.walk.Stage.TheVariants.{Start}
use Rattle.world_search.proofs.steps.walk_on.Given as goal

-- no world was passed so far
abbrev pub invariant-loop-alloc : goal.invariant-loop-alloc
invariant-loop-alloc g l = record {
  shape : l.asker.shape ≡ l.fn.asker.shape;
  walk : IsUnderWay l.problem l.span.from l.span.to l.walk l.guide;
  begun : l.walk.stage ≢ Start;
  came : Came (state_of l.problem l.span.from l.span.to l.fn.walk) (state_of l.problem l.span.from l.span.to l.walk) l.fn.nodes.left l.nodes.left [];
  keeps : KeepsOn l.problem l.span.from (g.L.TreeLog.lines l.fn.log) (g.L.TreeLog.lines l.log) l.fn.asker l.asker (expected l.fn.walk) (expected l.walk);
  log : LogGoes g.L.TreeLog.drops g.L.TreeLog.lines g.L.TreeLog.faults g.L.TreeLog.steady g.L.TreeLog.quiet (Ok (tt {0})) l.fn.log l.log;
}

abbrev pub decreases-loop-alloc : goal.decreases-loop-alloc
decreases-loop-alloc g l = nodes_left l.problem l.walk
