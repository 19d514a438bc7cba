use Rattle.world_search.proofs.Guiding.{new_ladder}
use Rattle.world_search.proofs.guide.Guide.new.Goals as goal

pub returns : goal.returns
returns c = new_ladder c.args.problem.now c.in_ok-ladder.ladder c.in_ok-ladder.ensures
