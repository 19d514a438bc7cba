use Rattle.world_walk.proofs.Along.{start_is_bound}
use Rattle.world_walk.proofs.path.AlivePath.new.Goals as goal

pub returns-in_ok-new-in-None : goal.returns-in_ok-new-in-None
returns-in_ok-new-in-None c = start_is_bound c.args.problem.now c.in_ok-new-in-None.field-0 c.facts.ensures.built.valid c.in_ok-new-in-None.ensures
