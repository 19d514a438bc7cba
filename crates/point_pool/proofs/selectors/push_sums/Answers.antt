use Rattle.point_pool.specs.Cursors.{kept_selector}
use Rattle.point_pool.proofs.Selecting.{lists_more}
use Rattle.point_pool.proofs.selectors.push_sums.Goals as goal

pub loop-sum-preserved : goal.loop-sum-preserved
loop-sum-preserved c =
    lists_more (kept_selector c.args.problem.now) c.args.lits.now.items c.loop-sum.lits.items c.push_sum.new.lits.items c.loop-sum.sum c.loop-sum.invariant c.in_ok-push_sum.ensures
