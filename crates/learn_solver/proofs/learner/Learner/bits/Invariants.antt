use Rattle.std.proofs.Common.{◌≡◌, ◌*◌, ℕ, false, length, get_or, take}
use Rattle.watch_arena.specs.Places.{is_true}
use Rattle.learn_solver.proofs.learner.Learner.bits.Given as goal

abbrev pub invariant-loop-place : goal.invariant-loop-place
invariant-loop-place l = record {
  counted : length l.bits ≡ l.self.trail.variables;
  each : (variable : ℕ) → get_or l.bits variable false ≡ is_true (take l.place l.self.trail.places) (2 * variable);
}
