use Rattle.std.proofs.Common.{◌∙◌, ℕ, List, sym, subst}
use Rattle.learn_solver.specs.Solving.{AreConsistent}
use Rattle.learn_solver.proofs.CallSequence.{GoesTo-trans}
use Rattle.learn_solver.proofs.learner.Learner.solve.Goals as goal

pub step-requires-clause-consistent : goal.step-requires-clause-consistent
step-requires-clause-consistent c = subst (λ (assumptions : List ℕ). AreConsistent assumptions) (sym c.loop-answer.invariant.assumptions) c.requires.consistent

pub returns-in_err-answer-clause-goes : goal.returns-in_err-answer-clause-goes
returns-in_err-answer-clause-goes c = GoesTo-trans _ _ _ c.loop-answer.invariant.goes c.step.ensures.steps.goes

pub returns-in-Some-clause-goes : goal.returns-in-Some-clause-goes
returns-in-Some-clause-goes c = GoesTo-trans _ _ _ c.loop-answer.invariant.goes c.step.ensures.steps.goes

pub loop-answer-preserved : goal.loop-answer-preserved
loop-answer-preserved c = record {
  sound = c.step.ensures.steps.sound;
  goes = GoesTo-trans _ _ _ c.loop-answer.invariant.goes c.step.ensures.steps.goes;
  assumptions = c.step.ensures.steps.assumptions ∙ c.loop-answer.invariant.assumptions;
}
