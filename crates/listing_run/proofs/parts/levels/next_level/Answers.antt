use Rattle.std.proofs.Common.{arith}
use Rattle.listing_run.proofs.parts.LevelLemmas.{level_long, level_more}
use Rattle.search_log.proofs.Logs.{asker_joins}
use Rattle.listing_run.proofs.parts.levels.next_level.Goals as goal

pub add_followers-requires-clause-short : goal.add_followers-requires-clause-short
add_followers-requires-clause-short c =
    let long = level_long c.args.problem.now c.args.depth c.args.level.now c.loop-node.node-index c.node-item.result c.requires.level c.requires.short c.loop-node-test.true c.node-item.is in
    let short = c.requires.short in
    omega arith

pub loop-node-preserved : goal.loop-node-preserved
loop-node-preserved c =
    let more = level_more c.args.problem.now c.args.level.now c.loop-node.next.items c.add_followers.new.nodes.items c.loop-node.node-index c.node-item.result
    c.loop-node-test.true c.node-item.is c.loop-node.invariant.0 c.in_ok-add_followers.ensures.nodes in
    (more, asker_joins _ _ _ c.loop-node.invariant.1 c.in_ok-add_followers.ensures.kept)
