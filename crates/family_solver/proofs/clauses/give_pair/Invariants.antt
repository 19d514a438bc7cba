use Rattle.std.proofs.Common.{◌≡◌}
use Rattle.family_solver.specs.Showing.{IsBegun}
use Rattle.family_solver.proofs.clauses.give_pair.Given as goal

abbrev pub invariant-regions : goal.invariant-regions
invariant-regions l = record {
  begun : IsBegun l.problem l.ground l.solver;
  exact : l.solver.variables ≡ l.fn.solver.variables;
}
