use Rattle.std.proofs.Common.{ap, ◌∙◌, get_or}
use Rattle.constraint_set.specs.Readers.{sum_places}
use Rattle.constraint_set.proofs.Sums.{sum_found}
use Rattle.constraint_set.proofs.problem.Problem.sum_at.Goals as goal

pub returns-clause-value : goal.returns-clause-value
returns-clause-value c = rw (← c.self.view_is) (c.sum_at.ensures ∙ ap (λ p. get_or (sum_places p) c.args.sum 0) c.deref.ensures)

pub returns-clause-within : goal.returns-clause-within
returns-clause-within c = (sum_found c.args.self.now c.args.sum c.sum_at.result c.requires (returns-clause-value c)).within

pub returns-clause-sum : goal.returns-clause-sum
returns-clause-sum c = (sum_found c.args.self.now c.args.sum c.sum_at.result c.requires (returns-clause-value c)).is_one

pub returns-clause-rule : goal.returns-clause-rule
returns-clause-rule c = (sum_found c.args.self.now c.args.sum c.sum_at.result c.requires (returns-clause-value c)).says
