use Rattle.std.proofs.Common.{subst}
use Rattle.family_solver.specs.Showing.{IsFound}
use Rattle.mir_report.proofs.sight.any_by_points.Goals as goal

pub returns-in-Met : goal.returns-in-Met
returns-in-Met c = subst (IsFound c.args.problem.now) c.in-Met.is c.in_ok-family.ensures.answer
