use Rattle.std.proofs.Common.{◌++◌, ◌∷◌, [], length, ap, ◌∙◌, subst}
use Rattle.point_ladder.specs.Stretches.{AreNexts}
use Rattle.point_ladder.proofs.Keeps.{keeps_start}
use Rattle.point_ladder.proofs.ladder.stand.Goals as goal

pub invariant_of-result : goal.invariant_of-result
invariant_of-result c =
    let b = c.args.bounds in
    let line = c.in_ok-line.line.items in
    let nexts = c.in_ok-nexts.nexts.items in
    keeps_start c.args.problem b c.args.rows line nexts c.push.new.self.items c.requires.bounds c.requires.rows (c.in_ok-line.ensures ∙ ap length c.deref.ensures.value)
    (subst (λ l. AreNexts b.sets.items l nexts) c.deref-3.ensures.value (subst (λ s. AreNexts s c.deref-3.result.now nexts) c.deref-2.ensures.value c.in_ok-nexts.ensures))
    (c.in_ok-push.ensures.items ∙ ap (λ ss. ss ++ record { from = 0; frame = b.frame } ∷ []) c.new-stretches.ensures.items)
