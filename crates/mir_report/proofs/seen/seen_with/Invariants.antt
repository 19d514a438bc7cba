use Rattle.mir_report.specs.Steps.{AreSeen}
use Rattle.mir_report.proofs.seen.seen_with.Given as goal

abbrev pub invariant-pairs : goal.invariant-pairs
invariant-pairs l = AreSeen l.problem l.pair l.more.items
