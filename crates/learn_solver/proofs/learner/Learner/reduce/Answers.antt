use Rattle.std.proofs.Common.{ℕ, refl}
use Rattle.learn_solver.specs.declared.learner.Learner.{Learner}
use Rattle.learn_solver.specs.Learners.{IsLearner, Steps}
use Rattle.learn_solver.proofs.StepInvariant.{Steps-kept, Steps-trans, IsLearner-kept}
use Rattle.learn_solver.proofs.learner.Learner.reduce.Goals as goal

-- how many clauses are many bears on nothing that is kept
limited : (l : Learner) (most : ℕ) → IsLearner l → Steps l (record l { most = most })
limited l most s = Steps-kept l (record l { most = most }) s (record { records = refl; trail_variables = refl; variables = refl; analyzer = refl; order = refl; given = refl; last = refl; waiting = refl }) refl

-- nor does how many more are
raised : (old new : Learner) (interval most : ℕ) → Steps old new → Steps old (record new { interval = interval; most = most })
raised old new interval most s =
    Steps-trans old new (record new { interval = interval; most = most }) s
    (Steps-kept new (record new { interval = interval; most = most }) s.sound (record { records = refl; trail_variables = refl; variables = refl; analyzer = refl; order = refl; given = refl; last = refl; waiting = refl }) refl)

pub returns-then-count-self-clause-steps : goal.returns-then-count-self-clause-steps
returns-then-count-self-clause-steps c = limited c.args.self.now c.limit-self.result c.requires

pub returns-in_err-kept-clause-steps : goal.returns-in_err-kept-clause-steps
returns-in_err-kept-clause-steps c = limited c.args.self.now c.limit-self.result c.requires

pub keep-requires-clause-sound : goal.keep-requires-clause-sound
keep-requires-clause-sound c = (limited c.args.self.now c.limit-self.result c.requires).sound

pub returns-in_err-keep-clause-steps : goal.returns-in_err-keep-clause-steps
returns-in_err-keep-clause-steps c = Steps-trans _ _ _ (limited c.args.self.now c.limit-self.result c.requires) c.keep.ensures.steps

pub returns-clause-steps : goal.returns-clause-steps
returns-clause-steps c = raised _ c.keep.new.self _ _ (Steps-trans _ _ _ (limited c.args.self.now c.limit-self.result c.requires) c.keep.ensures.steps)
