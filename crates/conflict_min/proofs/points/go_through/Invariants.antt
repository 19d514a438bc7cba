use Rattle.std.proofs.Common.{◌≡◌, length}
use Rattle.family_solver.specs.Kept.Keeping.{IsKeptSolver}
use Rattle.conflict_min.specs.Shrinking.{IsCourse}
use Rattle.conflict_min.proofs.points.go_through.Given as goal

-- those before the next place were gone through
abbrev pub invariant-places : goal.invariant-places
invariant-places l = record {
  solver : IsKeptSolver l.problem l.solver;
  end : l.count ≡ length l.problem.articulations;
  course : IsCourse l.problem l.place l.course;
}
