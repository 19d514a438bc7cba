use Rattle.std.proofs.Common.{length, ap, ◌∙◌}
use Rattle.constraint_set.specs.Readers.{sum_places}
use Rattle.constraint_set.proofs.Sums.{places_counted}
use Rattle.constraint_set.proofs.problem.Problem.sum_count.Goals as goal

pub returns-clause-rules : goal.returns-clause-rules
returns-clause-rules c = rw (← c.self.view_is) (c.sum_count.ensures ∙ ap (λ p. length (sum_places p)) c.deref.ensures ∙ places_counted c.self.inside.shape.value)
