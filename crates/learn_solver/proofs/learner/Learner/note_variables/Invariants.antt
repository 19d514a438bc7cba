use Rattle.std.proofs.Common.{◌≡◌, ◌<◌, ℕ, true, false, length, get_or}
use Rattle.lits_core.specs.Literals.{variable_of, is_negative}
use Rattle.learn_solver.proofs.learner.Learner.note_variables.Given as goal

abbrev pub invariant-loop-lit : goal.invariant-loop-lit
invariant-loop-lit l = record {
  same : l.self ≡ record l.fn.self { order = l.self.order };
  count : length l.self.order ≡ length l.fn.self.order;
  kept : (v : ℕ) → get_or l.fn.self.order v false ≡ true → get_or l.self.order v false ≡ true;
  noted : (i : ℕ) → i < l.lit-index → is_negative (get_or l.lits i 0) ≡ false → get_or l.self.order (variable_of (get_or l.lits i 0)) false ≡ true;
}
