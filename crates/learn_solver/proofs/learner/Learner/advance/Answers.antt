use Rattle.std.proofs.Common.{ℕ, List, sym, subst}
use Rattle.learn_solver.specs.Solving.{AreConsistent}
use Rattle.learn_solver.proofs.StepInvariant.{Steps-trans}
use Rattle.learn_solver.proofs.Conflicts.{Propagates-lighter}
use Rattle.learn_solver.proofs.Serving.{result-from}
use Rattle.learn_solver.proofs.learner.Learner.advance.Goals as goal

pub returns-in-Some-clause-steps : goal.returns-in-Some-clause-steps
returns-in-Some-clause-steps c = Steps-trans _ _ _ c.propagate.ensures.steps c.resolve_conflict.ensures.steps

pub returns-in-Some-clause-served : goal.returns-in-Some-clause-served
returns-in-Some-clause-served c =
    let lighter = Propagates-lighter c.args.self.now.trail c.propagate.new.self.trail c.propagate.ensures.kept in
    result-from c.args.self.now c.propagate.new.self c.resolve_conflict.new.self c.resolve_conflict.result lighter c.propagate.ensures.steps.assumptions c.resolve_conflict.ensures.served

pub returns-in-None-clause-steps : goal.returns-in-None-clause-steps
returns-in-None-clause-steps c = Steps-trans _ _ _ c.propagate.ensures.steps c.extend.ensures.steps

pub returns-in-None-clause-served : goal.returns-in-None-clause-served
returns-in-None-clause-served c =
    let lighter = Propagates-lighter c.args.self.now.trail c.propagate.new.self.trail c.propagate.ensures.kept in
    result-from c.args.self.now c.propagate.new.self c.extend.new.self c.extend.result lighter c.propagate.ensures.steps.assumptions c.extend.ensures.served

pub extend-requires-clause-consistent : goal.extend-requires-clause-consistent
extend-requires-clause-consistent c = subst (λ (assumptions : List ℕ). AreConsistent assumptions) (sym c.propagate.ensures.steps.assumptions) c.requires.consistent
