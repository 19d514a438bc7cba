use Rattle.std.proofs.Common.{refl}
use Rattle.point_query.proofs.Querying.{keeps_chain}
use Rattle.point_query.proofs.closer.Closer.ask.Goals as goal

pub asked-requires-clause-solver : goal.asked-requires-clause-solver
asked-requires-clause-solver c = c.drafted.ensures.solver.solver

pub returns-clause-solver : goal.returns-clause-solver
returns-clause-solver c =
    keeps_chain c.law_literals_are_sets.ensures c.args.cursor.now.problem c.args.cursor.now.problem c.args.self.now c.drafted.new.self c.asked.new.self refl c.drafted.ensures.solver c.asked.ensures.solver
