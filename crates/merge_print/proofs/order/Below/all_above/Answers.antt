use Rattle.std.proofs.Common.{ap, sym, ◌∙◌}
use Rattle.merge_print.specs.Merged.{row_has}
use Rattle.merge_print.proofs.ListLemmas.{filter_took, filter_left}
use Rattle.merge_print.proofs.order.Below.all_above.Goals.{then-has+in_ok-push, else-has}
use Rattle.merge_print.proofs.order.Below.all_above.Goals as goal

pub loop-other-preserved : goal.loop-other-preserved
loop-other-preserved c = elim c.if-has.branch [
  | then-has+in_ok-push w ↦ filter_took (row_has c.args.self.now c.args.class) _ _ c.loop-other.other c.loop-other.invariant (sym c.has.ensures ∙ w.if-has.true)
      (ap (λ v. v.items) w.above-is ∙ w.in_ok-push.ensures.items)
  | else-has w ↦ ap (λ v. v.items) w.above-is ∙ filter_left (row_has c.args.self.now c.args.class) _ c.loop-other.other c.loop-other.invariant (sym c.has.ensures ∙ w.if-has.false)
]
