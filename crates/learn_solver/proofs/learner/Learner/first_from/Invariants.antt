use Rattle.std.proofs.Common.{◌<◌, ◌≤◌, ◌-◌, ℕ, length}
use Rattle.clause_arena.specs.Records.{record_at}
use Rattle.learn_solver.proofs.learner.Learner.first_from.Given as goal

abbrev pub invariant-loop-low : goal.invariant-loop-low
invariant-loop-low l = record {
  ordered : l.low ≤ l.high;
  within : l.high ≤ length l.self.trail.records;
  before : (at : ℕ) → at < l.low → (record_at l.self.trail.records at).id < l.id;
  from : (at : ℕ) → l.high ≤ at → at < length l.self.trail.records → l.id ≤ (record_at l.self.trail.records at).id;
}

abbrev pub decreases-loop-low : goal.decreases-loop-low
decreases-loop-low l = l.high - l.low
