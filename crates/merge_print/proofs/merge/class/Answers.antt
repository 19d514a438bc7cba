use Rattle.std.proofs.Common.{◌==◌, ap, ◌∙◌}
use Rattle.std.specs.Prelude.{slice_index}
use Rattle.std.proofs.lemmas.Bool.{eq-eqb, ne_eqb}
use Rattle.merge_print.proofs.ListLemmas.{filter_took, filter_left}
use Rattle.merge_print.proofs.merge.class.Goals.{then-leaders-concept+in_ok-push, else-leaders-concept}
use Rattle.merge_print.proofs.merge.class.Goals as goal

pub loop-concept-preserved : goal.loop-concept-preserved
loop-concept-preserved c = elim c.if-leaders-concept.branch [
  | then-leaders-concept+in_ok-push w ↦ filter_took (λ x. slice_index c.args.leaders.now x == c.args.leader) _ _ c.loop-concept.concept c.loop-concept.invariant (eq-eqb _ c.args.leader w.if-leaders-concept.true)
      (ap (λ v. v.items) w.class-is ∙ w.in_ok-push.ensures.items)
  | else-leaders-concept w ↦ ap (λ v. v.items) w.class-is
      ∙ filter_left (λ x. slice_index c.args.leaders.now x == c.args.leader) _ c.loop-concept.concept c.loop-concept.invariant (ne_eqb _ c.args.leader w.if-leaders-concept.false)
]
