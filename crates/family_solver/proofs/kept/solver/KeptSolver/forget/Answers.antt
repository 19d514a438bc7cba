use Rattle.family_solver.proofs.kept.Denying.{kept_goes}
use Rattle.family_solver.proofs.kept.solver.KeptSolver.forget.Goals as goal

pub returns-in_ok-tidy-clause-solver : goal.returns-in_ok-tidy-clause-solver
returns-in_ok-tidy-clause-solver c =
    kept_goes c.law_derived_clauses_follow.ensures c.law_literals_are_sets.ensures c.args.problem.now c.args.self.now c.tidy.new.self c.tidy.ensures.kept c.requires
