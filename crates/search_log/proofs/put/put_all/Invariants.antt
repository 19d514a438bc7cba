use Rattle.std.proofs.Common.{take, Ok}
use Rattle.search_log.specs.Logging.{AreToldWith, LogGoes}
use Rattle.search_log.proofs.put.put_all.Given as goal

abbrev pub invariant-loop-each : goal.invariant-loop-each
invariant-loop-each g l = record {
  told : AreToldWith (g.L.TreeLog.lines l.fn.log) (take l.each-index l.lines) (g.L.TreeLog.lines l.log);
  log : LogGoes g.L.TreeLog.drops g.L.TreeLog.lines g.L.TreeLog.faults g.L.TreeLog.steady g.L.TreeLog.quiet (Ok (tt {0})) l.fn.log l.log;
}
