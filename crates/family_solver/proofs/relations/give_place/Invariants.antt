use Rattle.std.proofs.Common.{◌≡◌}
use Rattle.family_solver.specs.Showing.{IsBegun}
use Rattle.family_solver.proofs.relations.give_place.Given as goal

abbrev pub invariant-rels : goal.invariant-rels
invariant-rels l = record {
  begun : IsBegun l.problem l.ground l.solver;
  exact : l.solver.variables ≡ l.fn.solver.variables;
}
