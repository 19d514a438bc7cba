use Rattle.point_query.proofs.Querying.{keeps_still}
use Rattle.point_query.proofs.settle.found.Goals as goal

pub returns-in_err-bits-clause-solver : goal.returns-in_err-bits-clause-solver
returns-in_err-bits-clause-solver c = keeps_still _ _ c.requires.solver

pub returns-in-Some-clause-solver : goal.returns-in-Some-clause-solver
returns-in-Some-clause-solver c = keeps_still _ _ c.requires.solver
