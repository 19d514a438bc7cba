use Rattle.std.proofs.Common.{◌≡◌}
use Rattle.family_solver.specs.Showing.{IsBegun}
use Rattle.family_solver.proofs.clauses.give_needs.Given as goal

abbrev pub invariant-loop-concept : goal.invariant-loop-concept
invariant-loop-concept l = record {
  begun : IsBegun l.problem l.ground l.solver;
  exact : l.solver.variables ≡ l.fn.solver.variables;
}

abbrev pub invariant-loop-pair : goal.invariant-loop-pair
invariant-loop-pair l = record {
  begun : IsBegun l.problem l.ground l.solver;
  exact : l.solver.variables ≡ l.fn.solver.variables;
}
