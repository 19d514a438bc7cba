use Rattle.std.proofs.Common.{◌≡◌}
use Rattle.family_solver.specs.Showing.{IsBegun}
use Rattle.family_solver.proofs.relations.give_places.Given as goal

abbrev pub invariant-loop-place : goal.invariant-loop-place
invariant-loop-place l = record {
  begun : IsBegun l.problem l.ground l.solver;
  exact : l.solver.variables ≡ l.fn.solver.variables;
}
