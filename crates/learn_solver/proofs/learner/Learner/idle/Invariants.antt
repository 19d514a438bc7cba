use Rattle.std.proofs.Common.{◌≡◌, ◌+◌, ◌-◌, ◌≤◌, length, drop, max, Some, None, if◌then◌else◌}
use Rattle.std.specs.Prelude.{nat_lt}
use Rattle.learn_solver.specs.States.{idle_from, idle_of}
use Rattle.learn_solver.proofs.learner.Learner.idle.Given as goal

abbrev pub invariant-loop-next : goal.invariant-loop-next
invariant-loop-next l = record {
  next : l.next ≡ (if nat_lt l.number (length l.self.trail.records) then Some l.number else None);
  few : l.number ≤ length l.self.trail.records;
  most : l.count ≤ l.number;
  counted : l.count + length (idle_from l.self.trail.places (max l.number l.self.given) (drop (max l.number l.self.given) l.self.trail.records)) ≡ length (idle_of l.self.trail.places l.self.trail.records l.self.given);
}

abbrev pub decreases-loop-next : goal.decreases-loop-next
decreases-loop-next l = length l.self.trail.records - l.number
