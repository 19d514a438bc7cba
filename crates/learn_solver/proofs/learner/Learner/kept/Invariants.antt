use Rattle.std.proofs.Common.{◌≡◌, ◌<◌, ◌≤◌, ℕ, true, length}
use Rattle.learn_solver.specs.States.{is_reason}
use Rattle.learn_solver.specs.Learners.{stays_by}
use Rattle.learn_solver.proofs.learner.Learner.kept.Given as goal

abbrev pub invariant-loop-number : goal.invariant-loop-number
invariant-loop-number l = record {
  size : length l.kept.items ≡ l.number;
  reasons : (at : ℕ) → at < l.number → is_reason l.self.trail.places at ≡ true → stays_by l.kept.items at ≡ true;
  only : l.long ≡ 0 → length l.self.trail.records ≤ l.young → (at : ℕ) → l.self.given ≤ at → at < l.number → stays_by l.kept.items at ≡ is_reason l.self.trail.places at;
}
