use Rattle.point_query.proofs.Querying.{keeps_still}
use Rattle.point_query.proofs.bearing.found_after.Goals as goal

pub returns-in_err-push-clause-solver : goal.returns-in_err-push-clause-solver
returns-in_err-push-clause-solver c = keeps_still _ _ c.requires.solver
