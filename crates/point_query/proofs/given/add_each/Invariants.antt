use Rattle.std.proofs.Common.{◌≡◌, [], take}
use Rattle.lits_core.specs.Derivation.{first_state, SameState}
use Rattle.point_query.proofs.given.add_each.Given as goal

abbrev pub invariant-loop-clause : goal.invariant-loop-clause
invariant-loop-clause l = record {
  variables : l.solver.variables ≡ l.fn.solver.variables;
  given : SameState (first_state (take l.clause-index l.clauses)) l.solver.state;
  quiet : l.solver.waiting ≡ [];
  idle : l.solver.idle ≡ l.fn.solver.idle;
}
