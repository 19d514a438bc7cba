use Rattle.mir_report.specs.Steps.{AreCandidates}
use Rattle.mir_report.proofs.bare.allowed_sets.Given as goal

abbrev pub invariant-loop-pair : goal.invariant-loop-pair
invariant-loop-pair l = AreCandidates l.problem l.pair l.sets.items
