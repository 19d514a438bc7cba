use Rattle.std.proofs.Common.{◌≡◌}
use Rattle.solver_checks.proofs.forgetting.forgotten_alike.Given as goal

-- both solvers have the 22 variables
abbrev pub invariant-loop-question : goal.invariant-loop-question
invariant-loop-question l = record {
  tidied : l.tidied.variables ≡ 22;
  keeping : l.keeping.variables ≡ 22;
}
