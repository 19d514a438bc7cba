use Rattle.std.proofs.Common.{◌≡◌, []}
use Rattle.watch_arena.specs.Trails.{AreInRange}
use Rattle.measure.proofs.solving.add_clauses.Given as goal

abbrev pub invariant-numbers : goal.invariant-numbers
invariant-numbers l = record {
  variables : l.solver.variables ≡ l.variables;
  first : l.solver.state.derived ≡ [];
  quiet : l.solver.waiting ≡ [];
  range : AreInRange l.lits.items l.variables;
}
