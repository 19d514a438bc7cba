use Rattle.std.proofs.Common.{take}
use Rattle.world_model.specs.Alive.{problem_at}
use Rattle.point_query.specs.Queries.{KeepsSolver, ArePoints}
use Rattle.search_checks.specs.Asker.Seeking.{AreServed}
use Rattle.search_checks.proofs.asker.each_need.points_for_all.Given as goal

-- the needs so far are served
abbrev pub invariant-loop-need : goal.invariant-loop-need
invariant-loop-need l = record {
  solver : KeepsSolver l.problem l.fn.solver l.solver;
  points : ArePoints (problem_at l.problem l.prefix) l.found.items;
  served : AreServed l.problem l.prefix (take l.need-index l.wanted) l.found.items l.places.items;
}
