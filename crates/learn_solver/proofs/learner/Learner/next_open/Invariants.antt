use Rattle.std.proofs.Common.{◌≡◌, ◌-◌, length}
use Rattle.learn_solver.specs.Guides.{IsGuided}
use Rattle.learn_solver.specs.Learners.{guide_of}
use Rattle.learn_solver.proofs.learner.Learner.next_open.Given as goal

abbrev pub invariant-loop-lit : goal.invariant-loop-lit
invariant-loop-lit l = record {
  same : l.self ≡ record l.fn.self { assumptions = record l.fn.self.assumptions { holding = l.self.assumptions.holding } };
  guided : IsGuided (guide_of l.self);
}

abbrev pub decreases-loop-lit : goal.decreases-loop-lit
decreases-loop-lit l = length l.self.assumptions.lits - l.self.assumptions.holding
