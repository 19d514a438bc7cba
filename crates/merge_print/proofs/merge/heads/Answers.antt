use Rattle.std.proofs.Common.{◌==◌, ap, sym, ◌∙◌, length, arith}
use Rattle.std.specs.List.{list_any}
use Rattle.merge_print.proofs.ListLemmas.{filter_took, filter_left, filtered_within, filtered_few}
use Rattle.merge_print.proofs.merge.heads.Goals.{then-is_led+in_ok-push, else-is_led}
use Rattle.merge_print.proofs.merge.heads.Goals as goal

pub loop-leader-preserved : goal.loop-leader-preserved
loop-leader-preserved c = elim c.if-is_led.branch [
  | then-is_led+in_ok-push w ↦ filter_took (λ x. list_any (λ k. k == x) c.args.leaders.now) _ _ c.loop-leader.leader c.loop-leader.invariant (sym c.is_led.ensures ∙ w.if-is_led.true)
      (ap (λ v. v.items) w.heads-is ∙ w.in_ok-push.ensures.items)
  | else-is_led w ↦ ap (λ v. v.items) w.heads-is
      ∙ filter_left (λ x. list_any (λ k. k == x) c.args.leaders.now) _ c.loop-leader.leader c.loop-leader.invariant (sym c.is_led.ensures ∙ w.if-is_led.false)
]

pub returns-clause-within : goal.returns-clause-within
returns-clause-within c = filtered_within (λ x. list_any (λ k. k == x) c.args.leaders.now) c.loop-leader.heads.items c.loop-leader.leader (length c.args.leaders.now) c.loop-leader.invariant (omega arith)

pub returns-clause-few : goal.returns-clause-few
returns-clause-few c = filtered_few (λ x. list_any (λ k. k == x) c.args.leaders.now) c.loop-leader.heads.items c.loop-leader.leader (length c.args.leaders.now) c.loop-leader.invariant (omega arith)
