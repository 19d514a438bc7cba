use Rattle.std.proofs.Common.{◌≢◌, ◌<◌, ℕ, Some, get_or}
use Rattle.lits_core.specs.Literals.{variable_of}
use Rattle.clause_arena.specs.Records.{record_at}
use Rattle.watch_arena.specs.Places.{reason_of}
use Rattle.learn_solver.proofs.learner.Learner.is_reason.Given as goal

abbrev pub invariant-loop-place : goal.invariant-loop-place
invariant-loop-place l =
    (k : ℕ) → k < l.place → reason_of l.self.trail.places (variable_of (get_or (record_at l.self.trail.records l.at).lits k 0)) ≢ Some l.at
