use Rattle.learn_solver.proofs.HintChain.{HasCome}
use Rattle.learn_solver.proofs.learner.Learner.shown_by.Given as goal

-- the hints so far
abbrev pub invariant-loop-place : goal.invariant-loop-place
invariant-loop-place l = HasCome l.self.trail.records l.lits l.hints l.falses.items l.place
