use Rattle.world_search.proofs.OpenChildren.{known_shorter}
use Rattle.world_search.proofs.walk.pass.Goals as goal

pub returns-in-Some-clause-knows : goal.returns-in-Some-clause-knows
returns-in-Some-clause-knows c =
    known_shorter c.args.problem.now c.args.walk.now.path c.climb-next.new.path c.climb-next.ensures.prefix.0 c.len.result c.args.walk.now.opens c.back_to.new.self
    c.climb-next.ensures.prefix.1 c.len.ensures c.requires.knows c.back_to.ensures

pub returns-in-None-clause-knows : goal.returns-in-None-clause-knows
returns-in-None-clause-knows c =
    known_shorter c.args.problem.now c.args.walk.now.path c.climb-next.new.path c.climb-next.ensures.prefix.0 c.len.result c.args.walk.now.opens c.back_to.new.self
    c.climb-next.ensures.prefix.1 c.len.ensures c.requires.knows c.back_to.ensures
