use Rattle.std.proofs.Common.{sym, ap, ◌∙◌, subst}
use Rattle.world_model.specs.Alive.{allowed}
use Rattle.world_model.specs.Node.{pair_at}
use Rattle.family_solver.specs.Showing.{IsSo}
use Rattle.family_solver.proofs.Ruling.{rule_true, same_default}
use Rattle.family_solver.proofs.relations.give_rule.Goals as goal

pub give-requires-clause-so : goal.give-requires-clause-so
give-requires-clause-so c =
    let p = c.args.problem.now in
    let g = c.args.ground.now in
    subst (IsSo p g) (sym c.deref.ensures.value)
    (rule_true p g c.args.place c.allowed.result c.in_ok-lits.lits.items c.in_ok-lits.ensures c.requires.place (c.allowed.ensures ∙ ap (λ k. allowed p (pair_at p k)) (c.index.ensures ∙ same_default g.pairs.items c.args.place c.index.result.now 0 c.requires.place)))
