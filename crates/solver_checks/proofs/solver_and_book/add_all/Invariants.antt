use Rattle.std.proofs.Common.{◌≡◌, []}
use Rattle.solver_checks.proofs.solver_and_book.add_all.Given as goal

abbrev pub invariant-loop-line : goal.invariant-loop-line
invariant-loop-line l = record {
  variables : l.solver.variables ≡ 22;
  first : l.solver.state.derived ≡ [];
  quiet : l.solver.waiting ≡ [];
}
