use Rattle.std.proofs.Common.{length}
use Rattle.world_model.specs.Problem.{cross_pairs}
use Rattle.mir_report.specs.Steps.{AreSeen}
use Rattle.mir_report.proofs.gather.gather_by.Given as goal

abbrev pub invariant-runs : goal.invariant-runs
invariant-runs l = AreSeen l.problem (length (cross_pairs l.problem)) l.seen.items
