use Rattle.std.proofs.Common.{◌≡◌, [], Some, length, Ok}
use Rattle.constraint_set.specs.Facts.{IsBuilt}
use Rattle.cert_rules.specs.ClaimLists.{split_pairs}
use Rattle.search_log.specs.Logging.{LogGoes}
use Rattle.search_log.specs.Leading.{KeepsLeading}
use Rattle.split_search.specs.Walking.{IsWalk, KeepsTree}
use Rattle.split_search.proofs.Whole.{NoTables}
use Rattle.split_search.proofs.Leftover.{left}
use Rattle.split_search.proofs.search.search.Given as goal

-- no family has a table before the node, and the log tells the tree up to it
abbrev pub invariant-nodes : goal.invariant-nodes
invariant-nodes g l = record {
  built : IsBuilt l.problem;
  walk : IsWalk l.walk;
  subject : l.walk.subject ≡ l.problem;
  none : NoTables l.problem (Some l.walk.path);
  shape : l.asker.shape ≡ l.fn.asker.shape;
  keeps : KeepsTree l.problem (g.L.TreeLog.lines l.fn.log) (g.L.TreeLog.lines l.log) l.fn.asker l.asker (Some []) (Some l.walk.path);
  leads : KeepsLeading (g.L.TreeLog.lines l.fn.log) (g.L.TreeLog.lines l.log) l.fn.asker l.asker;
  log : LogGoes g.L.TreeLog.drops g.L.TreeLog.lines g.L.TreeLog.faults g.L.TreeLog.steady g.L.TreeLog.quiet (Ok (tt {0})) l.fn.log l.log;
}

abbrev pub decreases-nodes : goal.decreases-nodes
decreases-nodes g l = left (length (split_pairs l.problem)) l.walk.path
