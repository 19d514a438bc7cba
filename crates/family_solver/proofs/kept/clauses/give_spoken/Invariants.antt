use Rattle.std.proofs.Common.{◌≡◌}
use Rattle.family_solver.specs.Showing.{IsBegun}
use Rattle.family_solver.proofs.kept.clauses.give_spoken.Given as goal

abbrev pub invariant-loop-place : goal.invariant-loop-place
invariant-loop-place l = record {
  begun : IsBegun l.base l.ground l.solver;
  exact : l.solver.variables ≡ l.fn.solver.variables;
}
