use Rattle.std.proofs.Common.{◌≡◌, ◌++◌, drop}
use Rattle.learn_solver.specs.States.{gone_from}
use Rattle.learn_solver.specs.Learners.{stays_by, gone_of}
use Rattle.learn_solver.proofs.learner.Learner.other_ids.Given as goal

abbrev pub invariant-loop-number : goal.invariant-loop-number
invariant-loop-number l =
    l.ids.items ++ gone_from (stays_by l.kept) l.number (drop l.number l.self.trail.records) ≡ gone_of l.self l.kept
