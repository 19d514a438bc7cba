use Rattle.std.proofs.Common.{[], None}
use Rattle.world_search.proofs.Told.{told_whole}
use Rattle.trial_run.proofs.listing.put_listing.Goals as goal

pub returns-clause-told : goal.returns-clause-told
returns-clause-told g c =
    told_whole c.args.problem.now [] None (g.L.TreeLog.lines c.args.log.now) (g.L.TreeLog.lines c.put_first.new.log) (g.L.TreeLog.lines c.put_nodes.new.log) (g.L.TreeLog.lines c.put_one.new.log)
    c.in_ok-put_first.ensures c.in_ok-found.ensures.told c.in_ok-put_one.ensures.told
