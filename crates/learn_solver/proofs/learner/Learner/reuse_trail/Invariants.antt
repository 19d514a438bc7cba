use Rattle.std.proofs.Common.{◌≡◌, ◌-◌, length}
use Rattle.learn_solver.specs.Guides.{IsMarked}
use Rattle.learn_solver.specs.Learners.{guide_of}
use Rattle.learn_solver.proofs.learner.Learner.reuse_trail.Given as goal

abbrev pub invariant-loop-lit : goal.invariant-loop-lit
invariant-loop-lit l = record {
  same : l.self ≡ record l.fn.self { assumptions = l.self.assumptions };
  lits : l.self.assumptions.lits ≡ l.fn.self.assumptions.lits;
  marked : IsMarked (guide_of l.self);
}

abbrev pub decreases-loop-lit : goal.decreases-loop-lit
decreases-loop-lit l = length l.self.assumptions.lits - l.self.assumptions.holding
