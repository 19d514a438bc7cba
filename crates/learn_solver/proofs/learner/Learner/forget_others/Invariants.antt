use Rattle.std.proofs.Common.{◌≡◌}
use Rattle.learn_solver.specs.Learners.{stays_by}
use Rattle.learn_solver.proofs.RemainingRecords.{ForgottenTo}
use Rattle.learn_solver.proofs.learner.Learner.forget_others.Given as goal

abbrev pub invariant-loop-number : goal.invariant-loop-number
invariant-loop-number l = record {
  same : l.self ≡ record l.initial.self { trail = l.self.trail };
  forgets : ForgottenTo l.initial.self.trail l.self.trail l.initial.self.given (stays_by l.kept) l.number;
}
