use Rattle.point_query.specs.Queries.{KeepsSolver}
use Rattle.point_query.proofs.drafted.add_steps.Given as goal

abbrev pub invariant-loop-step : goal.invariant-loop-step
invariant-loop-step l = KeepsSolver l.problem l.fn.solver l.solver
