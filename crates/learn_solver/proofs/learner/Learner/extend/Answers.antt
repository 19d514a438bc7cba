use Rattle.std.proofs.Common.{ℕ, List, sym, subst}
use Rattle.learn_solver.specs.Solving.{AreConsistent}
use Rattle.learn_solver.proofs.learner.Learner.extend.Goals as goal

pub assume_next-requires-clause-consistent : goal.assume_next-requires-clause-consistent
assume_next-requires-clause-consistent c = subst (λ (assumptions : List ℕ). AreConsistent assumptions) (sym c.next_open.ensures.steps.assumptions) c.requires.consistent
