use Rattle.std.proofs.Common.{◌≡◌}
use Rattle.family_solver.specs.Showing.{IsBegun}
use Rattle.family_solver.proofs.relations.give_empty.Given as goal

abbrev pub invariant-loop-point : goal.invariant-loop-point
invariant-loop-point l = record {
  begun : IsBegun l.problem l.ground l.solver;
  exact : l.solver.variables ≡ l.fn.solver.variables;
}
