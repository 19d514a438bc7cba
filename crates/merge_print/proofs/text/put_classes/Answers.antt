use Rattle.merge_print.specs.Text.{class_line_at}
use Rattle.merge_print.proofs.ListLemmas.{range_put}
use Rattle.merge_print.proofs.text.put_classes.Goals as goal

pub loop-place-preserved : goal.loop-place-preserved
loop-place-preserved c = range_put (class_line_at c.args.problem.now c.args.classes.now) _ _ _ c.loop-place.place c.loop-place.invariant c.in_ok-put_class_at.ensures
