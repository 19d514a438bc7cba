use Rattle.std.proofs.Common.{below_more}
use Rattle.point_pool.proofs.pool.all_needed.Goals as goal

pub loop-number-preserved : goal.loop-number-preserved
loop-number-preserved c = below_more _ _ (λ number h needed. c.in_ok-push_if_needed.ensures.stay number (c.loop-number.invariant number h needed)) c.in_ok-push_if_needed.ensures.there
