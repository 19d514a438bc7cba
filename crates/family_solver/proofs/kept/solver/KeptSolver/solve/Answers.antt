use Rattle.family_solver.proofs.kept.Denying.{kept_stays}
use Rattle.family_solver.proofs.kept.solver.KeptSolver.solve.Goals as goal

pub returns-clause-solver : goal.returns-clause-solver
returns-clause-solver c =
    kept_stays c.law_derived_clauses_follow.ensures c.law_literals_are_sets.ensures c.args.problem.now c.forget.new.self c.clear_lines.new.self c.solve.new.self c.clear_lines.ensures c.solve.ensures.kept c.in_ok-forget.ensures.solver
