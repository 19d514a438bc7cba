use Rattle.std.proofs.Common.{refl}
use Rattle.world_walk.proofs.WentOn.{along_way}
use Rattle.world_walk.proofs.way.go_along.Goals as goal

pub returns-clause-went : goal.returns-clause-went
returns-clause-went c =
    let w = c.args.way.now in
    (along_way w (record { along = c.skip.new.self; waiting = w.waiting; levels = w.levels; stage = w.stage }) c.requires.way c.requires.standing c.requires.ready c.skip.ensures c.requires.ready refl c.requires.standing).0

pub returns-clause-no_more : goal.returns-clause-no_more
returns-clause-no_more c =
    let w = c.args.way.now in
    (along_way w (record { along = c.skip.new.self; waiting = w.waiting; levels = w.levels; stage = w.stage }) c.requires.way c.requires.standing c.requires.ready c.skip.ensures c.requires.ready refl c.requires.standing).1
