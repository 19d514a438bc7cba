use Rattle.std.proofs.Common.{◌≡◌, ◌-◌, length, None, Ok}
use Rattle.world_search.specs.Guiding.{IsGuideOf}
use Rattle.world_search.specs.Logging.{KeepsOn}
use Rattle.search_log.specs.Logging.{LogGoes}
use Rattle.world_search.specs.Walking.{IsOnWay, expected, Knows}
use Rattle.world_search.proofs.first.find.Given as goal

-- the log is told of the prefixes so far
abbrev pub invariant-loop-alloc : goal.invariant-loop-alloc
invariant-loop-alloc g l = record {
  shape : l.asker.shape ≡ l.fn.asker.shape;
  way : IsOnWay l.problem l.from l.walk;
  settled : l.walk.next ≡ None;
  knows : Knows l.problem l.walk;
  guided : IsGuideOf l.problem l.walk.path l.guide;
  keeps : KeepsOn l.problem l.from (g.L.TreeLog.lines l.fn.log) (g.L.TreeLog.lines l.log) l.fn.asker l.asker (expected l.fn.walk) (expected l.walk);
  log : LogGoes g.L.TreeLog.drops g.L.TreeLog.lines g.L.TreeLog.faults g.L.TreeLog.steady g.L.TreeLog.quiet (Ok (tt {0})) l.fn.log l.log;
}

abbrev pub decreases-loop-alloc : goal.decreases-loop-alloc
decreases-loop-alloc g l = length l.from - length l.walk.path
