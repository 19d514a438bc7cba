use Rattle.world_model.specs.Alive.{problem_at}
use Rattle.plain_walk.proofs.trial.is_alive.Goals as goal

pub returns-clause-alive : goal.returns-clause-alive
returns-clause-alive c = rw c.in_ok-alive.ensures (c.trial_is_right.ensures.alive (problem_at c.args.problem.now c.args.prefix.now))
