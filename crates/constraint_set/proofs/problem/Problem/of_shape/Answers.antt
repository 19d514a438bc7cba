use Rattle.std.proofs.Common.{[], true, map, ap, ◌∙◌}
use Rattle.constraint_set.specs.Shape.{with_state}
use Rattle.constraint_set.proofs.Saying.{first_state, same_state}
use Rattle.constraint_set.proofs.problem.Problem.of_shape.Goals as goal

pub invariant_of-result : goal.invariant_of-result
invariant_of-result c =
    let kept = c.in_ok-kept.kept in
    let held = c.in_ok-new-2.field-0.value in
    let narrowed = c.in_ok-new-3.field-0.value in
    same_state c.args.shape c.in_ok-new.field-0.value kept.flags.items held.flags.items kept.sets held.sets [] narrowed.list.items [] narrowed.sets
    c.in_ok-new.ensures.ok
    (ap (λ k. k.flags.items) c.in_ok-new-2.ensures.ok)
    (ap (λ k. k.sets) c.in_ok-new-2.ensures.ok)
    (ap (λ n. n.list.items) c.in_ok-new-3.ensures.ok ∙ c.none.ensures.list)
    (ap (λ n. n.sets) c.in_ok-new-3.ensures.ok ∙ c.none.ensures.sets)
    (first_state c.args.shape kept.flags.items kept.sets c.in_ok-kept.ensures.flags c.in_ok-kept.ensures.sets)

pub returns : goal.returns
returns c =
    let held = c.in_ok-new-2.field-0.value in
    let narrowed = c.in_ok-new-3.field-0.value in
    ap (λ shape. with_state shape held.flags.items narrowed.list.items) c.in_ok-new.ensures.ok ∙
    ap (λ flags. with_state c.args.shape flags narrowed.list.items) (ap (λ k. k.flags.items) c.in_ok-new-2.ensures.ok ∙ c.in_ok-kept.ensures.flags) ∙
    ap (with_state c.args.shape (map (λ _. true) c.args.shape.articulations)) (ap (λ n. n.list.items) c.in_ok-new-3.ensures.ok ∙ c.none.ensures.list)
