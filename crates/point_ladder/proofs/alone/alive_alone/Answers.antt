use Rattle.std.proofs.Common.{rules}
use Rattle.point_ladder.proofs.AliveAlone.{alone_more}
use Rattle.point_ladder.proofs.alone.alive_alone.Goals as goal

pub loop-pair-preserved : goal.loop-pair-preserved
loop-pair-preserved c =
    alone_more c.args.problem.now c.loop-pair.pair c.loop-pair.sets.items c.push.new.self.items c.alone.result c.loop-pair.invariant c.alone.ensures (search rules)
