use Rattle.world_search.specs.Walking.{place}
use Rattle.world_search.proofs.Leading.{leads_after, full_childless}
use Rattle.world_search.proofs.steps.leave.Goals as goal

pub returns-clause-on : goal.returns-clause-on
returns-clause-on c =
    leads_after c.args.problem.now c.args.walk.now.path (place c.pass.new.walk) c.pass.new.walk.stage
    (full_childless c.args.problem.now c.args.walk.now.path c.requires.full) c.pass.ensures.on
