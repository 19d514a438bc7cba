use Rattle.std.proofs.Common.{ap}
use Rattle.point_query.proofs.Querying.{keeps_chain}
use Rattle.point_query.proofs.leading.each_told.Goals as goal

pub returns-clause-solver : goal.returns-clause-solver
returns-clause-solver c =
    keeps_chain c.law_literals_are_sets.ensures c.args.pool.now.cursor.problem c.shown_here.new.pool.cursor.problem c.args.solver.now c.shown_here.new.solver c.each_tried.new.solver
    (ap (λ s. s.problem) c.in_ok-shown.ensures.cursor) c.shown_here.ensures.solver c.each_tried.ensures.solver
