use Rattle.std.proofs.Common.{◌<◌, sym, subst}
use Rattle.world_model.specs.Problem.{pair_count}
use Rattle.constraint_set.proofs.Gathering.{pair_order}
use Rattle.constraint_set.proofs.shape.Shape.pair_at.Goals as goal

pub pair_at-requires : goal.pair_at-requires
pair_at-requires c = subst (λ p. c.args.pair < pair_count p) (sym c.self.view_is) c.requires

pub returns-clause-value : goal.returns-clause-value
returns-clause-value c = rw (← c.self.view_is) c.pair_at.ensures

pub returns-clause-order : goal.returns-clause-order
returns-clause-order c = (pair_order c.args.self.now c.args.pair c.pair_at.result c.requires (returns-clause-value c)).0

pub returns-clause-within : goal.returns-clause-within
returns-clause-within c = (pair_order c.args.self.now c.args.pair c.pair_at.result c.requires (returns-clause-value c)).1
