use Rattle.learn_solver.proofs.StepInvariant.{Steps-back}
use Rattle.learn_solver.proofs.learner.Learner.backtrack.Goals as goal

pub returns-clause-steps : goal.returns-clause-steps
returns-clause-steps c = Steps-back c.args.self.now c.cancel_until.new.self c.args.level c.requires.sound c.facts.ensures c.requires.level c.cancel_until.ensures
