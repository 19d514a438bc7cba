use Rattle.std.proofs.Common.{◌≡◌, ℕ, ◌<◌, subst}
use Rattle.world_model.specs.Problem.{pair_count}
use Rattle.world_model.specs.Node.{pair_at}
use Rattle.constraint_set.proofs.problem.Problem.pair_index.Goals as goal

pub returns-clause-at : goal.returns-clause-at
returns-clause-at c = rw (← c.self.view_is) (subst (λ p. pair_at p c.pair_index.result ≡ (c.args.x, c.args.y)) c.deref.ensures c.pair_index.ensures.at)

pub returns-clause-within : goal.returns-clause-within
returns-clause-within c = rw (← c.self.view_is) (subst (λ p. c.pair_index.result < pair_count p) c.deref.ensures c.pair_index.ensures.within)

pub returns-clause-only : goal.returns-clause-only
returns-clause-only c =
    rw (← c.self.view_is) (subst (λ p. (k : ℕ) → k < pair_count p → pair_at p k ≡ (c.args.x, c.args.y) → k ≡ c.pair_index.result) c.deref.ensures c.pair_index.ensures.only)
