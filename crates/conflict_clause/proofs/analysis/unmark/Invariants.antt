use Rattle.std.proofs.Common.{◌≡◌, ℕ, ◌<◌, true, false, length, get_or}
use Rattle.conflict_clause.proofs.analysis.unmark.Given as goal

abbrev pub invariant-loop-variable : goal.invariant-loop-variable
invariant-loop-variable l = record {
  size : length l.marks ≡ length l.fn.marks;
  only : (v : ℕ) → get_or l.marks v false ≡ true → get_or l.fn.marks v false ≡ true;
  none : (k : ℕ) → k < l.variable-index → get_or l.marks (get_or l.variables k 0) false ≡ false;
}
