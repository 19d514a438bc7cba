use Rattle.std.proofs.Common.{◌∙◌}
use Rattle.merge_print.specs.Merged.{row_has}
use Rattle.merge_print.proofs.MergeLemmas.{under_put}
use Rattle.merge_print.proofs.order.list_under.Goals as goal

pub loop-class-preserved : goal.loop-class-preserved
loop-class-preserved c =
    under_put (row_has c.args.below.now) c.args.count c.loop-class.class _ _ c.deref.result.now c.loop-class.invariant (c.deref.ensures.value ∙ c.in_ok-above.ensures.above) c.in_ok-put_under.ensures
