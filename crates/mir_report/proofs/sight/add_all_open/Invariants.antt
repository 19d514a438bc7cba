use Rattle.family_solver.specs.Showing.{IsGround}
use Rattle.mir_report.proofs.sight.add_all_open.Given as goal

abbrev pub invariant-pairs : goal.invariant-pairs
invariant-pairs l = IsGround l.problem l.ground
