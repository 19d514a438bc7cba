use Rattle.learn_solver.proofs.StepInvariant.{Steps-refl}
use Rattle.learn_solver.proofs.learner.Learner.derive.Goals as goal

pub returns-in_err-count-clause-steps : goal.returns-in_err-count-clause-steps
returns-in_err-count-clause-steps c = Steps-refl c.args.self.now c.requires.sound

pub returns-in-None-clause-steps : goal.returns-in-None-clause-steps
returns-in-None-clause-steps c = Steps-refl c.args.self.now c.requires.sound
