use Rattle.std.proofs.Common.{ℕ, List, sym, subst, arith}
use Rattle.learn_solver.specs.Solving.{AreConsistent}
use Rattle.learn_solver.proofs.StepInvariant.{Steps-trans}
use Rattle.learn_solver.proofs.Serving.{result-from}
use Rattle.learn_solver.proofs.learner.Learner.step.Goals as goal

pub advance-requires-clause-consistent : goal.advance-requires-clause-consistent
advance-requires-clause-consistent c = subst (λ (assumptions : List ℕ). AreConsistent assumptions) (sym c.reduce.ensures.steps.assumptions) c.requires.consistent

pub returns-clause-steps : goal.returns-clause-steps
returns-clause-steps c = Steps-trans _ _ _ c.reduce.ensures.steps c.advance.ensures.steps

pub returns-clause-served : goal.returns-clause-served
returns-clause-served c =
    let same = c.reduce.ensures.burden in
    result-from c.args.self.now c.reduce.new.self c.advance.new.self c.advance.result (omega arith) c.reduce.ensures.steps.assumptions c.advance.ensures.served
