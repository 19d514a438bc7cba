use Rattle.mir_report.specs.Steps.{AreSeen}
use Rattle.mir_report.proofs.seen.none_seen.Given as goal

abbrev pub invariant-pairs : goal.invariant-pairs
invariant-pairs l = AreSeen l.problem l._pair l.seen.items
