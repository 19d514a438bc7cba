use Rattle.std.proofs.Common.{◌<◌, sym, ap, ◌∙◌, subst}
use Rattle.world_model.specs.Problem.{pair_count}
use Rattle.world_model.specs.Node.{pair_at}
use Rattle.constraint_set.proofs.problem.Problem.pair_at.Goals as goal

pub pair_at-requires : goal.pair_at-requires
pair_at-requires c =
    subst (λ p. c.args.pair < pair_count p) (sym c.deref.ensures) (subst (λ p. c.args.pair < pair_count p) (sym c.self.view_is) c.requires)

pub returns-clause-value : goal.returns-clause-value
returns-clause-value c = rw (← c.self.view_is) (c.pair_at.ensures.value ∙ ap (λ p. pair_at p c.args.pair) c.deref.ensures)
