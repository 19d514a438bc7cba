use Rattle.point_query.proofs.Querying.{keeps_still}
use Rattle.point_query.proofs.leading.is_known_or_leads_on.Goals as goal

pub returns-then-has-clause-solver : goal.returns-then-has-clause-solver
returns-then-has-clause-solver c = keeps_still _ _ c.requires.solver
