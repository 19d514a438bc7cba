use Rattle.std.proofs.Common.{arith}
use Rattle.world_watch.proofs.StepLemmas.{fed_none, fed_more, fed_all, fed_stop, on_err}
use Rattle.world_watch.proofs.feeding.feed.Goals as goal

pub loop-place-init : goal.loop-place-init
loop-place-init g c = fed_none _ _ _ _ _

pub returns-in_err-feed_one-clause-err : goal.returns-in_err-feed_one-clause-err
returns-in_err-feed_one-clause-err g c =
    on_err c.from_residual.result (fed_stop c.index_mut.result.now c.feed_one.new.watcher c.loop-place.invariant (omega arith) c.index_mut.ensures.value c.in_err-feed_one.ensures.err)

pub loop-place-preserved : goal.loop-place-preserved
loop-place-preserved g c = fed_more c.index_mut.result.now c.feed_one.new.watcher c.loop-place.invariant (omega arith) c.index_mut.ensures.value c.in_ok-feed_one.ensures.ok

pub returns-clause-ok : goal.returns-clause-ok
returns-clause-ok g c = fed_all c.loop-place.invariant (omega arith)
